use Rattle.std.proofs.Common.{refl}
use Rattle.px_message.proofs.FlowLemmas.{flow_eq}
use Rattle.px_message.proofs.OptionLemmas.{same_option}
use Rattle.px_message.proofs.flow.FlowClone.clone.Goals as goal

pub returns : goal.returns
returns c =
    let client = same_option _ _ c.in_ok-clone.ensures.cases in
    let server = same_option _ _ c.in_ok-clone-2.ensures.cases in
    let response = same_option _ _ c.in_ok-clone-4.ensures.cases in
    let error = same_option _ _ c.in_ok-clone-5.ensures.cases in
    let message = same_option _ _ c.in_ok-clone-6.ensures.cases in
    record {
      cases =
          flow_eq _ _ refl client server c.in_ok-clone-3.ensures.cases response error refl refl refl refl message c.in_ok-clone-7.ensures.cases;
    }
