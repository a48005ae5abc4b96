-- The messages that rows are about. A text has fields, a stroke, and the body.
use Rattle.std.specs.Prelude.{◌≡◌, ℕ, false, List, [], ◌∷◌, codes, slice_index}
use Rattle.std.proofs.Common.{ap, arith}
use Rattle.px_message.specs.declared.version.Version.TheVariants.{Http11}
use Rattle.px_message.specs.declared.request.Request.{Request}
use Rattle.px_message.specs.declared.response.Response.{Response}
use Rattle.px_examples.specs.Rows.{before_stroke, behind_stroke, fields_in}

-- `POST http://h:81/a?b` with the trailer `T: 1`
abbrev pub request_with : List ℕ → Request
request_with text = record {
  method = codes "POST";
  host = codes "h";
  port = 81;
  path = codes "/a?b";
  version = Http11;
  fields = fields_in (before_stroke text);
  body = behind_stroke text;
  trailers = (codes "T", codes "1") ∷ [];
  streamed = false;
  not_connect = λ same. (let first : 80 ≡ 67 = ap (λ text. slice_index text 0) same in absurd (omega arith));
  port_not_zero = λ same. absurd (omega arith);
}

-- a response of this code without a reason and trailers
abbrev pub response_with : ℕ → List ℕ → Response
response_with code text = record {
  version = Http11;
  status = code;
  reason = [];
  fields = fields_in (before_stroke text);
  body = behind_stroke text;
  trailers = [];
  streamed = false;
}
