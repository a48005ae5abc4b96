use Rattle.std.proofs.Common.{◌<◌, length, rules}
use Rattle.std.proofs.lemmas.List.Elements.{All-get_or}
use Rattle.px_refresh.proofs.TextLemmas.{text_on}
use Rattle.px_refresh.proofs.jar.text_of.Goals as goal

pub loop-place-preserved : goal.loop-place-preserved
loop-place-preserved c =
    let cookies = c.args.cookies.now in
    let places = c.args.places.now in
    let i = c.loop-place.place-index in
    let within : i < length places = search rules in
    record {
      text = text_on c.args.path.now cookies places i c.index-cookies-place.result c.loop-place.text.items c.push_cookie.new.text.items within
          (All-get_or (λ place. place < length cookies) places i 0 within c.requires) c.index-cookies-place.is c.loop-place.invariant.text
          c.in_ok-push_cookie.ensures.pushed;
      valid = c.in_ok-push_cookie.ensures.valid c.loop-place.invariant.valid;
    }
