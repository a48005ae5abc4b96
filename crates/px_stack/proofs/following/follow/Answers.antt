use Rattle.std.proofs.Common.{[], refl, ap, sym, ◌∙◌}
use Rattle.std.proofs.lemmas.List.{append-nil}
use Rattle.rand_chacha.specs.ChaCha.{key_of}
use Rattle.px_stream.specs.Tells.{outcome_in}
use Rattle.px_stack.proofs.FollowLemmas.{ends_asks, ends_with, goes_on, with_one_key}
use Rattle.px_stack.proofs.following.follow.Goals as goal

pub returns-in-Going-clause-follows : goal.returns-in-Going-clause-follows
returns-in-Going-clause-follows c = record {
  more = [];
  grown = sym (append-nil c.args.out.now.items);
  holds = λ conv client place standing prefix keyed now at in_time. goes_on conv client place c.args.http.value standing prefix at in_time c.args.http refl
      (ap (λ h. outcome_in h.stream.phase) (sym c.deref.ensures) ∙ (sym c.outcome.ensures.phase ∙ c.in-Going.is));
}

pub returns-in-Next-clause-follows : goal.returns-in-Next-clause-follows
returns-in-Next-clause-follows c = record {
  more = [];
  grown = sym (append-nil c.args.out.now.items);
  holds = ends_with c.args.http.value c.outcome.result (c.outcome.ensures.phase ∙ ap (λ h. outcome_in h.stream.phase) c.deref.ensures) c.in-Next.is (key_of c.args.means.mask_key) c.args.moment;
}

pub returns-in-Next-clause-asks : goal.returns-in-Next-clause-asks
returns-in-Next-clause-asks c =
    ends_asks c.args.http.value c.outcome.result (c.outcome.ensures.phase ∙ ap (λ h. outcome_in h.stream.phase) c.deref.ensures) c.in-Next.is c.args.out.now.items

pub returns-in-Connects-clause-follows : goal.returns-in-Connects-clause-follows
returns-in-Connects-clause-follows c =
    with_one_key (key_of c.args.means.mask_key) c.args.moment c.args.http.value c.args.out.now.items c.connect.new.out.items c.connect.result c.connect.ensures.follows
