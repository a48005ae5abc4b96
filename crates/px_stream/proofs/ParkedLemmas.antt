-- A parked side is kept by the machine as long as the sight shows nothing of it.
use Rattle.std.proofs.Common.{◌≡◌, Bool, true, false, Option, Some, None, refl, ap, sym, ◌∙◌}
use Rattle.px_exchange.specs.declared.ending.Used.TheVariants.{ByServer}
use Rattle.px_chain.specs.Keeping.{is_silent, unspoilt_at, unspoilt_by}
use Rattle.px_chain.specs.Sights.{Sight, server_parked}
use Rattle.px_chain.specs.Stages.{At, Parked}
use Rattle.px_chain.proofs.KeepingLaws.{silent_nothing}
use Rattle.px_stream.specs.declared.link.Link.{Link}
use Rattle.px_stream.specs.Stands.{parked_link, silent_link, used_in}
use Rattle.px_stream.specs.Turns.{with_open}

-- ---- its place

open_silent : (at : At) (parked : Parked) (silent : Bool) → at.parked ≡ Some parked → with_open at (silent_link silent parked.server) ≡ (let a : At = record at { parked = unspoilt_by silent (Some parked) } in a)
open_silent at parked true is = ap (λ (o : Option Parked). let a : At = record at { parked = o } in a) is
open_silent at parked false is = refl

open_none : (at : At) (silent : Bool) → (let a : At = record at { parked = None } in a) ≡ (let a : At = record at { parked = unspoilt_by silent None } in a)
open_none at true = refl
open_none at false = refl

open_by : (at : At) (seen : Sight) (o : Option Parked) → at.parked ≡ o → with_open at (parked_link o seen) ≡ (let a : At = record at { parked = unspoilt_by (is_silent seen.server seen.shut) o } in a)
open_by at seen None is = open_none at (is_silent seen.server seen.shut)
open_by at seen (Some parked) is = open_silent at parked (is_silent seen.server seen.shut) is

-- A side that is kept no more is forgotten where the stage forgets it.
pub open_as : (at : At) (seen : Sight) (side : Option Link) → side ≡ parked_link at.parked seen → with_open at side ≡ unspoilt_at at seen
open_as at seen side is = ap (with_open at) is ∙ open_by at seen at.parked refl

-- ---- what is used there

used_silent : (parked : Parked) (seen : Sight) (silent : Bool) → is_silent seen.server seen.shut ≡ silent →
    used_in (silent_link silent parked.server) ≡ server_parked (unspoilt_by silent (Some parked)) seen
used_silent parked seen true is = ap (ByServer parked.server) (sym (silent_nothing seen.server seen.shut is).is_open)
used_silent parked seen false is = refl

used_none : (seen : Sight) (silent : Bool) → used_in None ≡ server_parked (unspoilt_by silent None) seen
used_none seen true = refl
used_none seen false = refl

-- It is the side that the stage closes.
pub parked_used : (parked : Option Parked) (seen : Sight) → used_in (parked_link parked seen) ≡ server_parked (unspoilt_by (is_silent seen.server seen.shut) parked) seen
parked_used None seen = used_none seen (is_silent seen.server seen.shut)
parked_used (Some parked) seen = used_silent parked seen (is_silent seen.server seen.shut) refl
