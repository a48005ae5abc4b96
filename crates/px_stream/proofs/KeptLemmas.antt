-- What a reader keeps behind a whole message: its trailers, which are not more than they may be.
use Rattle.std.proofs.Common.{◌≡◌, ℕ, ◌+◌, ◌≤◌, Bool, List, sym, subst, arith}
use Rattle.px_read.specs.Kept.{fields_keep}
use Rattle.px_read.specs.Marks.{Mark}
use Rattle.px_read.specs.Reader.{Message, MessagePlace, Reads, State, at_head, behind_end, in_chunks, in_counted, keeps, place_of_message_keeps, refused, rest_keeps, up_to_close}
use Rattle.px_bounds.specs.Bounds.{most_trailers}
use Rattle.px_bounds.proofs.TrailerLemmas.{whole_few}
use Rattle.px_stream.specs.Stands.{IsBehind}

kept_place : (place : MessagePlace) (rest : List ℕ) (trailers : List (List ℕ × List ℕ)) → place ≡ behind_end trailers → place_of_message_keeps place + rest_keeps place rest ≤ most_trailers → fields_keep trailers ≤ most_trailers
kept_place place rest trailers is few =
    let all : fields_keep trailers + 0 ≤ most_trailers = subst (λ (p : MessagePlace). place_of_message_keeps p + rest_keeps p rest ≤ most_trailers) is few in
    omega arith

pub behind_whole : (message : Message) (told : List Mark) (fed : List ℕ) (closed : Bool) (state : State) (trailers : List (List ℕ × List ℕ)) → Reads message told fed closed state →
    state.place ≡ behind_end trailers → IsBehind state.place
behind_whole message told fed closed state trailers reads is =
    subst IsBehind (sym is) (kept_place state.place state.rest trailers is (whole_few message told fed closed state trailers reads is))

few_behind : (place : MessagePlace) (rest : List ℕ) → IsBehind place → place_of_message_keeps place + rest_keeps place rest ≤ most_trailers
few_behind (at_head message) rest is = absurd is
few_behind (in_counted side left) rest is = absurd is
few_behind (in_chunks side place) rest is = absurd is
few_behind (up_to_close side) rest is = absurd is
few_behind (refused fault) rest is = absurd is
few_behind (behind_end trailers) rest is = let few : fields_keep trailers ≤ most_trailers = is in omega arith

-- So it keeps no more than those.
pub keeps_few : (state : State) → IsBehind state.place → keeps state ≤ most_trailers
keeps_few state is = few_behind state.place state.rest is
