use Rattle.std.proofs.Common.{◌≡◌, true, take, filter}
use Rattle.px_message.specs.Value.{is_value}
use Rattle.px_refresh.specs.Cookies.{cookie_text, is_for}
use Rattle.px_refresh.specs.Index.{at_places}
use Rattle.px_refresh.proofs.jar.text_of.Given as goal

-- the text of the cookies at the places so far
abbrev pub invariant-loop-place : goal.invariant-loop-place
invariant-loop-place l = record {
  text : l.text.items ≡ cookie_text (filter (λ cookie. is_for l.fn.path cookie.0) (at_places l.cookies (take l.place-index l.places)));
  valid : is_value l.text.items ≡ true;
}
