use Rattle.std.specs.Prelude.{map}
use Rattle.std.specs.Fmt.{digits}
use Rattle.std.specs.Option.{option_map}
use Rattle.px_message.specs.Authority.{port_of}
use Rattle.px_message.specs.Target.{located, path_form}
use Rattle.px_message.specs.Url.{url_text}
use Rattle.px_examples.specs.Targets.{urls}
use Rattle.px_examples.proofs.Hosts.{absolutes_same}
use Rattle.px_examples.proofs.targets.urls_are_set.Goals as goal

pub returns : goal.returns
unfolding digits port_of located path_form
returns c = absolutes_same (λ form. map (λ row. option_map (λ a. url_text a.0 a.1 a.2) (form row.0)) urls)
