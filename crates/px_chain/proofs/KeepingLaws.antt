-- What ends the keeping of a parked side, and what begins it: of a silent side nothing came, and behind a response whose side is kept nothing of that is left.
use Rattle.std.proofs.Common.{◌≡◌, ℕ, Bool, true, false, List, [], ◌∷◌, Option, Some, None, refl, ap, ◌∙◌}
use Rattle.std.specs.Prelude.{◌&&◌}
use Rattle.px_message.specs.declared.request.Request.{Request}
use Rattle.px_read.specs.declared.head.ResponseHead.{ResponseHead as ReadResponse}
use Rattle.px_read.specs.Items.{answer_list}
use Rattle.px_exchange.specs.Requests.{is_head}
use Rattle.px_chain.specs.Keeping.{is_silent, keeps_side, shut_by_byte, shut_stray}
use Rattle.px_chain.specs.Sights.{Sight, answers_in, left_by_answers}
use Rattle.px_chain.specs.Stages.{Parked}

-- of a side that is silent nothing came
pub record IsNothing (bytes : List ℕ) (shut : Bool) : Type 0 where
  pub empty : bytes ≡ []
  pub is_open : shut ≡ false

pub silent_nothing : (bytes : List ℕ) (shut : Bool) → is_silent bytes shut ≡ true → IsNothing bytes shut
silent_nothing [] true is = absurd (let e : false ≡ true = is in cc)
silent_nothing [] false is = record { empty = refl; is_open = refl }
silent_nothing (byte ∷ more) shut is = absurd (let e : false ≡ true = is in cc)

first_holds : (a b : Bool) → (a && b) ≡ true → a ≡ true
first_holds true b is = refl
first_holds false b is = is

-- behind a response whose side is kept nothing is left of that
pub kept_nothing : (request : Request) (seen : Sight) (head : ReadResponse) → keeps_side request seen head ≡ true →
    IsNothing (left_by_answers (answers_in request seen) seen.server) seen.shut
kept_nothing request seen head is =
    silent_nothing (left_by_answers (answers_in request seen) seen.server) seen.shut
    (first_holds (is_silent (left_by_answers (answers_in request seen) seen.server) seen.shut) _ is)

-- where no byte came of it nothing is owed
pub nothing_strays : (parked : Option Parked) (seen : Sight) → seen.server ≡ [] → shut_stray parked seen ≡ []
nothing_strays None seen is = refl
nothing_strays (Some parked) seen is = ap (λ l. shut_by_byte parked.server l) is

-- the same comes of the same bytes of a server
pub same_answers : (request : Request) (seen middle : Sight) → middle.server ≡ seen.server → middle.shut ≡ seen.shut → answers_in request middle ≡ answers_in request seen
same_answers request seen middle bytes shut =
    ap (λ s. answer_list (is_head request.method) s middle.server) shut ∙ ap (λ b. answer_list (is_head request.method) seen.shut b) bytes
