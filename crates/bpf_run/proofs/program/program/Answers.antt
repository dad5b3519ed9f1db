use Rattle.std.proofs.Common.{◌≡◌, ℕ, List, string_bytes}
use Rattle.bpf_command.specs.declared.command.Request.{Request}
use Rattle.bpf_command.specs.declared.command_line.CommandError.{CommandError}
use Rattle.bpf_replies.specs.Answer.{Prints}
use Rattle.bpf_run.specs.Program.{Follows, IsPrintedAs}
use Rattle.bpf_run.specs.Conversing.{Converses}
use Rattle.bpf_replies.specs.declared.refusal.Refusal.{Refusal}
use Rattle.bpf_replies.specs.declared.reply.Reply.TheVariants as reply
use Rattle.bpf_replies.specs.declared.reply.Status.{Status}
use Rattle.bpf_run.proofs.Followed.{followed, lacked, shown_of}
use Rattle.bpf_run.proofs.program.program.Goals as goal

pub returns-in-Ok-clause-followed : goal.returns-in-Ok-clause-followed
returns-in-Ok-clause-followed g c =
    let old = c.args.source.now in
    let new = c.follow.new.source in
    let before = g.W.Sink.contents c.args.sink.now in
    let after = g.W.Sink.contents c.follow.new.sink in
    let lost = g.W.Sink.has_failed c.follow.new.sink in
    let hears = c.args.terminal.now in
    let heard = c.follow.new.terminal in
    let P : Request → Status → List ℕ → Type 0 = λ request status stats. Follows request (g.T.Shelf.has_made c.args.rt.now) (new ≡ old) (heard ≡ hears)
    (Converses (g.D.Terminal.passes hears heard) (g.D.Terminal.is_unread heard) (g.D.Terminal.has_failed heard)) (g.R.Source.remaining old)
    (g.R.Source.file old) (g.R.Source.has_failed new) before after lost status stats in
    let R : CommandError → Status → Type 0 = λ e status. (r : Refusal) × IsPrintedAs e r × Prints (reply.Refused r) before after lost status in
    followed _ _ _ string_bytes (λ v. v.items) c.args.words c.in-Ok.words c.in-Ok.is c.deref.result.now c.deref.ensures.value
    c.request_of-asked.result c.follow.result
    P ((new ≡ old) × (heard ≡ hears)) R c.request_of-asked.ensures.accepted c.request_of-asked.ensures.asked
    c.request_of-asked.ensures.refused c.follow.ensures.performed c.follow.ensures.refused

pub returns-in-Ok-clause-shown : goal.returns-in-Ok-clause-shown
returns-in-Ok-clause-shown g c =
    shown_of _ _ _ string_bytes (λ v. v.items) c.args.words c.in-Ok.words c.in-Ok.is c.deref.result.now c.deref.ensures.value
    c.request_of-asked.result c.follow.result
    _ _ _ c.request_of-asked.ensures.refused c.follow.ensures.shown

pub returns-in-Ok-clause-misused : goal.returns-in-Ok-clause-misused
returns-in-Ok-clause-misused g c =
    lacked _ _ _ string_bytes (λ v. v.items) c.args.words c.in-Ok.words c.in-Ok.is c.deref.result.now c.deref.ensures.value
    c.request_of-asked.result c.follow.result
    _ _ _ c.request_of-asked.ensures.refused c.follow.ensures.misused
