use Rattle.std.proofs.Common.{◌≡◌, ◌++◌, ◌<◌, ◌^◌, true, ap, sym, subst, ◌∙◌, arith}
use Rattle.px_message.specs.Url.{port_suffix}
use Rattle.px_message.specs.Value.{is_value}
use Rattle.px_map.proofs.UrlLemmas.{host_text_is_value}
use Rattle.px_map.proofs.url.host_value.Goals as goal

pub of_text-requires : goal.of_text-requires
of_text-requires c =
    let small : c.args.port < 2 ^ 16 = omega (arith, c.ranges.port) in
    subst (λ t. is_value t ≡ true)
    (sym (c.deref.ensures.value ∙ c.in_ok-append_port.ensures ∙ ap (λ t. t ++ port_suffix c.args.port) (c.in_ok-text.ensures.items ∙ c.bytes.ensures.bytes)))
    (host_text_is_value c.args.host.now c.args.port c.bytes.ensures.valid small)
