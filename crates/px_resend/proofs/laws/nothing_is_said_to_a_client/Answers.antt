use Rattle.px_resend.proofs.ClientLemmas.{client_finishes, client_unsaid}
use Rattle.px_resend.proofs.laws.nothing_is_said_to_a_client.Goals as goal

pub returns-clause-bytes : goal.returns-clause-bytes
returns-clause-bytes c = client_unsaid

pub returns-clause-finishes : goal.returns-clause-finishes
returns-clause-finishes c = client_finishes
