use Rattle.px_gen.proofs.CountLemmas.{client_bytes_are_sent}
use Rattle.px_gen.proofs.laws.client_bytes_are_those_sent.Goals as goal

pub returns : goal.returns
returns c = record { sent = λ conv trace all. client_bytes_are_sent conv trace all }
