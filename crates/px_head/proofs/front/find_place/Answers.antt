use Rattle.std.proofs.Common.{sym, subst, length}
use Rattle.px_head.specs.declared.place.BlockPlace.{BlockPlace}
use Rattle.px_head.specs.Within.{IsPlaceWithin}
use Rattle.px_head.specs.declared.front.Kind.TheVariants.{Request, Response, Trailers}
use Rattle.px_head.proofs.PlaceLemmas.{place_within}
use Rattle.px_head.proofs.front.find_place.Goals as goal

pub returns-in-Request-clause-within : goal.returns-in-Request-clause-within
returns-in-Request-clause-within c = subst (λ (p : BlockPlace). IsPlaceWithin (length c.args.bytes.now) p)
    (sym c.head_place.ensures.place) (place_within Request c.args.bytes.now)

pub returns-in-Response-clause-within : goal.returns-in-Response-clause-within
returns-in-Response-clause-within c = subst (λ (p : BlockPlace). IsPlaceWithin (length c.args.bytes.now) p)
    (sym c.head_place-in-Response.ensures.place) (place_within Response c.args.bytes.now)

pub returns-in-Trailers-clause-within : goal.returns-in-Trailers-clause-within
returns-in-Trailers-clause-within c = subst (λ (p : BlockPlace). IsPlaceWithin (length c.args.bytes.now) p)
    (sym c.trailers_place.ensures.place) (place_within Trailers c.args.bytes.now)
