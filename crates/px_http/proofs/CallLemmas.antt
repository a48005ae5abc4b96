-- The calls of a conversation, from those of its stream.
use Rattle.std.proofs.Common.{◌≡◌, ℕ, ◌+◌, ◌++◌, ◌≤◌, List, [], Option, Some, None, refl, ap, ◌∙◌, arith}
use Rattle.px_event.specs.declared.command.Command.{Command}
use Rattle.px_event.specs.declared.event.Event.{Event}
use Rattle.px_event.specs.declared.reply.Reply.{Reply}
use Rattle.px_event.specs.Chain.{Timed, found_with}
use Rattle.px_event.specs.Layer.{Goes, Replied, Took}
use Rattle.px_event.specs.View.{seen_of}
use Rattle.px_event.proofs.Steps.{Takes, begins, onward, past_end, resume_goes, take_goes}
use Rattle.px_chain.specs.Chain.{look}
use Rattle.px_chain.specs.Keeping.{strays}
use Rattle.px_chain.specs.Sights.{Sight, Standing, bytes_over, sight_over}
use Rattle.px_chain.specs.Stages.{Parked, idle, side_parked}
use Rattle.px_chain.proofs.KeepingLaws.{nothing_strays}
use Rattle.px_stream.proofs.AnywhereLemmas.{waits_first_look}
use Rattle.px_stream.specs.Anywhere.{IsInSequence, IsNew, ResumesAnywhere, TakesAnywhere}
use Rattle.px_http.specs.declared.conversation.HttpConv.{HttpConv}
use Rattle.px_http.specs.Stands.{HttpStands, ahead_of, chain_of, is_there, settles_there, start_at}

takes_as : (made after : HttpConv) (moment : ℕ) (event : Event) (more : List Command) (place : Standing) (prefix : List (Timed Event)) →
    Takes (chain_of made) (IsInSequence made.stream.terms (ahead_of made.stream.at)) after.stream moment event more place prefix → Takes (chain_of made) (is_there made) after moment event more place prefix
takes_as made after moment event more place prefix (onward is at gives) = onward is at gives
takes_as made after moment event more place prefix (past_end owed is at gives) = past_end owed is at gives

pub take_goes_on : (before after : HttpConv) (moment : ℕ) (event : Event) (out longer : List Command) → TakesAnywhere before.stream after.stream moment event out longer →
    Goes HttpStands before after (Took moment event) out longer
take_goes_on before after moment event out longer call =
    take_goes chain_of settles_there start_at is_there before after moment event call.more out longer call.grown
    (λ made place prefix _ at. takes_as made after moment event call.more place prefix (call.takes made.stream.terms (ahead_of made.stream.at) place prefix at))

pub resume_goes_on : (before after : HttpConv) (moment : ℕ) (reply : Reply) (out longer : List Command) → ResumesAnywhere before.stream after.stream moment reply out longer →
    Goes HttpStands before after (Replied moment reply) out longer
resume_goes_on before after moment reply out longer call =
    resume_goes chain_of settles_there start_at is_there before after moment reply call.more out longer call.grown
    (λ made place prefix _ at.
    let there = call.resumes made.stream.terms (ahead_of made.stream.at) place prefix at in
    record { ask = there.ask; asked = there.asked; place = there.place; gives = there.gives })

-- nothing has come of a side that is parked from the start, so it is not closed
none_yet : (parked : Option Parked) → bytes_over (side_parked parked) 0 [] ≡ []
none_yet None = refl
none_yet (Some parked) = refl

abbrev first_seen : HttpConv → Sight
first_seen made = sight_over (start_at made) []

none_strays : (made : HttpConv) → strays (idle made.stream.at) (first_seen made) ≡ []
none_strays made = nothing_strays made.stream.at.parked (first_seen made) (none_yet made.stream.at.parked)

-- A new one stands for itself by no moves.
pub made_first : (made : HttpConv) (first next_server : ℕ) → made.stream.at.flow ≡ first → made.stream.at.dials ≡ next_server → next_server ≤ first + 1 → IsNew made.stream →
    ((ahead : ℕ) → next_server ≤ first + ahead → ahead ≤ 1 → IsInSequence made.stream.terms ahead made.stream (start_at made) []) → HttpStands made made [] []
made_first made first next_server flow dials few is_new stands =
    let at : IsInSequence made.stream.terms (ahead_of made.stream.at) made.stream (start_at made) [] = stands (ahead_of made.stream.at) (omega arith) (omega arith) in
    begins (chain_of made) (settles_there made) (start_at made) (is_there made) made at
    (λ view. ap (λ l. seen_of view ((l ++ []) ++ found_with [] (look made.stream.terms (idle made.stream.at) (first_seen made)))) (none_strays made)
    ∙ ap (λ l. seen_of view (found_with [] l)) (waits_first_look made.stream is_new))
