use Rattle.std.proofs.Common.{rules, ◌≡◌, ◌≢◌, ℕ, Bool, true, false, List, Some, Ok, refl, ap}
use Rattle.std.specs.Prelude.{bytes_eq}
use Rattle.px_message.specs.Length.{request_length}
use Rattle.px_message.specs.Target.{target_form}
use Rattle.px_message.specs.declared.address.Address.{Address}
use Rattle.px_message.specs.declared.length.Length.{Length}
use Rattle.px_message.specs.declared.request.Request.{Request}
use Rattle.px_read.specs.declared.head.RequestHead.{RequestHead}
use Rattle.px_exchange.specs.declared.asked.Judged.TheVariants.{Accepted}
use Rattle.px_exchange.specs.declared.place.Place.{Place}
use Rattle.px_read.specs.Heads.{connect_method}
use Rattle.px_exchange.specs.Requests.{differs, goal_at, judged_method, request_of}
use Rattle.px_exchange.proofs.asked.judge.Goals as goal

accepts : (place : Place) (head : RequestHead) (connects : Bool) (is : bytes_eq head.method connect_method ≡ connects) (address : Address) (path : List ℕ) (size : Length) (request : Request)
    → connects ≡ false → goal_at place (target_form head.method head.target) ≡ Some (address, path) → request_length head.fields ≡ Ok size
    → ((not_connect : head.method ≢ connect_method) → request ≡ request_of address head path not_connect)
    → Accepted request ≡ judged_method place head connects is
accepts place head true is address path size request differ found framed same = absurd (let e : true ≡ false = differ in cc)
accepts place head false is address path size request differ found framed same =
    rw (found, framed) (ap Accepted (same (differs head.method connect_method is)))

pub returns : goal.returns
returns c =
    let head = c.args.head in
    let no : bytes_eq head.method connect_method ≡ false = search rules in
    let found : goal_at c.args.place.now (target_form head.method head.target) ≡ Some (c.in-Some.address, c.in-Some.path) = search rules in
    let framed : request_length head.fields ≡ Ok c.in_default-length_of_request.field-0 = search rules in
    accepts c.args.place.now head (bytes_eq head.method connect_method) refl c.in-Some.address c.in-Some.path c.in_default-length_of_request.field-0 c.in_ok-accept.field-0 no found framed
    (λ not_connect. c.in_ok-accept.ensures not_connect)
