use Rattle.std.proofs.Common.{refl}
use Rattle.std.specs.Fmt.{digits}
use Rattle.base64.proofs.OnLiterals.{base64_on_literals}
use Rattle.httparse.specs.Grammar.{is_token_byte}
use Rattle.px_message.specs.Target.{absolute_form}
use Rattle.px_draft.specs.Words.{bytes_of}
use Rattle.px_draft.proofs.rows.drafts_are_changed.Goals as goal

pub returns : goal.returns
unfolding digits base64_on_literals is_token_byte absolute_form bytes_of
returns c = record {
  requests = refl;
  fields = refl;
  bodies = refl;
  heads = refl;
  responses = refl;
  response_heads = refl;
  messages = refl;
  no_response = refl;
  no_message = refl;
  streamed = refl;
  streamed_responses = refl;
}
