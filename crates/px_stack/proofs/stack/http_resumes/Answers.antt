use Rattle.std.proofs.Common.{◌≡◌, ◌<◌, ℕ, List, ◌++◌, ap, sym, ◌∙◌, subst, append_assoc}
use Rattle.std.proofs.lemmas.Result.{IfOk-weaker}
use Rattle.rand_chacha.specs.ChaCha.{key_of}
use Rattle.px_event.specs.declared.command.Command.{Command}
use Rattle.px_http.specs.declared.conversation.HttpConv.{HttpConv}
use Rattle.px_stream.specs.Anywhere.{Somewhere, ResumesAnywhere}
use Rattle.px_stream.specs.Tells.{sequence_left}
use Rattle.px_stack.specs.declared.child.Child.TheVariants as children
use Rattle.px_stack.specs.Kept.{left_by}
use Rattle.px_stack.specs.Steps.{Adds, Follows, ResumesChild}
use Rattle.px_stack.proofs.HttpLemmas.{http_resumes, somewhere, resumes_left}
use Rattle.px_stack.proofs.stack.http_resumes.Goals as goal
use Rattle.px_stack.specs.Stages.{Visitor}

pub resume_anywhere-requires-clause-somewhere : goal.resume_anywhere-requires-clause-somewhere
resume_anywhere-requires-clause-somewhere c =
    let P : HttpConv → Type 0 = λ h. Somewhere h.stream in
    subst P (sym c.deref_mut.ensures.value) (somewhere c.requires.somewhere.0 c.requires.somewhere.1 c.args.http c.requires.somewhere.2)

pub returns-clause-resumes : goal.returns-clause-resumes
returns-clause-resumes c =
    let out : List Command = c.args.out.now.items in
    let between : List Command = c.resume_anywhere.new.out.items in
    let longer : List Command = c.follow.new.out.items in
    let after : HttpConv = c.resume_anywhere.new.self in
    let P : HttpConv → Type 0 = λ h. ResumesAnywhere h.stream after.stream c.args.moment c.args.reply out between in
    let took : ResumesAnywhere c.args.http.value.stream after.stream c.args.moment c.args.reply out between = subst P c.deref_mut.ensures.value c.in_ok-resume_anywhere.ensures.resumes in
    IfOk-weaker c.follow.result (λ child. Adds (Follows (key_of c.args.means.mask_key) c.args.moment after child) between longer)
    (λ child. Adds (λ more. (conv : ℕ) (client : Visitor) → client.key ≡ key_of c.args.means.mask_key → ResumesChild conv client (children.Http c.args.http) child c.args.moment c.args.reply more) out longer)
    (λ child adds. record {
      more = took.more ++ adds.more;
      grown = adds.grown ∙ (ap (λ l. l ++ adds.more) took.grown ∙ append_assoc out took.more adds.more);
      holds = λ conv client keyed.
          let K : List ℕ → Type 0 = λ key. Follows key c.args.moment after child adds.more in
          http_resumes conv client c.args.http after child c.args.moment took.more adds.more (subst K (sym keyed) adds.holds) c.args.reply c.requires.plain took.resumes;
    }) c.follow.ensures.follows

pub returns-clause-left : goal.returns-clause-left
returns-clause-left c =
    let out : List Command = c.args.out.now.items in
    let between : List Command = c.resume_anywhere.new.out.items in
    let longer : List Command = c.follow.new.out.items in
    let after : HttpConv = c.resume_anywhere.new.self in
    let P : HttpConv → Type 0 = λ h. ResumesAnywhere h.stream after.stream c.args.moment c.args.reply out between in
    let took : ResumesAnywhere c.args.http.value.stream after.stream c.args.moment c.args.reply out between = subst P c.deref_mut.ensures.value c.in_ok-resume_anywhere.ensures.resumes in
    let Q : HttpConv → Type 0 = λ h. sequence_left after.stream < sequence_left h.stream in
    let fewer : sequence_left after.stream < sequence_left c.args.http.value.stream = subst Q c.deref_mut.ensures.value c.in_ok-resume_anywhere.ensures.left in
    IfOk-weaker c.follow.result (λ child. Adds (Follows (key_of c.args.means.mask_key) c.args.moment after child) between longer) (λ child. left_by child < left_by (children.Http c.args.http))
    (λ child adds. resumes_left (key_of c.args.means.mask_key) c.args.http after child c.args.moment took.more adds.more adds.holds c.requires.somewhere.0 c.requires.somewhere.1 c.args.reply c.requires.somewhere.2 took.resumes fewer)
    c.follow.ensures.follows
