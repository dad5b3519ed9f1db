-- The replies of one input print one text.
use Rattle.std.proofs.Common.{Option, ◌<◌, ◌≤◌, ℕ, List, length, inl, inr, refl, sym, subst, arith}
use Rattle.std.specs.Prelude.{IsUtf8}
use Rattle.bpf_insn.specs.Laws.{WordsAreDetermined, EncodingsAreDetermined, RefusalsAreDetermined}
use Rattle.bpf_loader.specs.Laws.{FirstIsDetermined}
use Rattle.bpf_cpu.specs.Laws.{OutcomesAreDetermined, NoMapsNoEvents}
use Rattle.bpf_text.specs.Laws.{TextsAreDetermined}
use Rattle.bpf_file.specs.Laws.{FilesAreDetermined, FilesCanRun}
use Rattle.bpf_jobs.specs.Laws.{ReportsByAreDetermined}
use Rattle.bpf_events.specs.Reports.{HistoriesAreDetermined}
use Rattle.bpf_buffer_events.specs.Printed.{HistoriesWithBuffersAreDetermined}
use Rattle.bpf_flushes.specs.Printed.{ReportsWithBuffersAreDetermined}
use Rattle.bpf_packets.specs.Reports.{ReportsWithPacketsAreDetermined}
use Rattle.bpf_debug.specs.Laws.{ScriptsAreDetermined}
use Rattle.bpf_replies.proofs.OneDebug.{PrintsAs, one_debug}
use Rattle.bpf_replies.proofs.OneJudged.{one_judged}
use Rattle.bpf_replies.proofs.FreshFiles.{fresh, fresh_asked}
use Rattle.bpf_replies.proofs.OneText.{prints, of_run, of_assembly, of_listing, one_run, one_listing, one_assembly, one_assembled_run}
use Rattle.bpf_replies.proofs.OneText.{one_told, one_history, one_of_file}
use Rattle.bpf_run.specs.Commands.{IsAnswer, IsForOneSchedule, IsForOneThread, IsReply}
use Rattle.bpf_replies.specs.Input.{RefusesInput}
use Rattle.bpf_replies.specs.Running.{IsBufferHistory, IsHistoryBy, IsRunBy, IsRunWithBuffers, IsRunWithPackets, IsToldBy}
use Rattle.bpf_replies.specs.Script.{asked_world_of, first_world_of}
use Rattle.bpf_replies.specs.declared.input.TheConstants.{MAX_INPUT}
use Rattle.bpf_replies.specs.Laws.{IsOfInput, IsForAnyInput}
use Rattle.bpf_run.specs.Laws.{HasShortContext, RepliesAreDetermined}
use Rattle.bpf_command.specs.declared.command.Command.{Command}
use Rattle.bpf_command.specs.declared.command.Command.TheVariants as command
use Rattle.bpf_replies.specs.declared.input.InputError.TheVariants as input_error
use Rattle.bpf_replies.specs.declared.refusal.Refusal.{Refusal}
use Rattle.bpf_replies.specs.declared.refusal.Refusal.TheVariants as refusal
use Rattle.bpf_replies.specs.declared.reply.Reply.{Reply}
use Rattle.bpf_replies.specs.declared.reply.Reply.TheVariants as reply

data OfInput (c : Command) (input : List ℕ) : Reply → Type 0 where
  TooLong : MAX_INPUT < length input → OfInput c input (reply.Refused (refusal.Input input_error.TooLong))
  NotText : length input ≤ MAX_INPUT → ¬ IsUtf8 input → OfInput c input (reply.Refused refusal.NotText)
  Answered : (r : Reply) → length input ≤ MAX_INPUT → IsUtf8 input → IsAnswer c input r → OfInput c input r

of_refusal : (c : Command) (input : List ℕ) (e : Refusal) → RefusesInput input e → ¬ IsForAnyInput e → OfInput c input (reply.Refused e)
of_refusal c input (refusal.Input input_error.Unread) h n = absurd (n tt)
of_refusal c input (refusal.Input input_error.TooLong) h n = TooLong h
of_refusal c input (refusal.Input input_error.OutOfMemory) h n = absurd (n tt)
of_refusal c input refusal.NotText h n = NotText h.0 h.1
of_refusal c input _ h n = absurd h

of_input : (c : Command) (input : List ℕ) (r : Reply) → IsReply c input r → IsOfInput r → OfInput c input r
of_input c input r (inl refused) n =
    let made = of_refusal c input refused.0 refused.2 (subst IsOfInput refused.1 n) in
    subst (OfInput c input) (sym refused.1) made
of_input c input r (inr answered) n = Answered r answered.0 answered.1 answered.2

module _ (words : WordsAreDetermined) (encodings : EncodingsAreDetermined) (refusals : RefusalsAreDetermined) (firsts : FirstIsDetermined)
    (texts : TextsAreDetermined) (outcomes : OutcomesAreDetermined) (events : NoMapsNoEvents) (files : FilesAreDetermined)
    (runs : FilesCanRun) (reports : ReportsByAreDetermined) (histories : HistoriesAreDetermined) (scripts : ScriptsAreDetermined)
    (carried : ReportsWithPacketsAreDetermined) (buffered : ReportsWithBuffersAreDetermined)
    (noted : HistoriesWithBuffersAreDetermined) where
  one_answer : (c : Command) (text : List ℕ) (r s : Reply) → HasShortContext c → IsForOneThread c → IsForOneSchedule c → IsAnswer c text r →
      IsAnswer c text s → IsOfInput r → IsOfInput s → PrintsAs r s
  one_answer (command.Hex options) text r s h t o a b n m =
      prints r s (one_run words encodings refusals firsts texts outcomes events files runs reports histories scripts options.budget
      options.context.items text r s h (of_run options.budget options.context.items text r a n)
      (of_run options.budget options.context.items text s b m))
  one_answer (command.Asm listing) text r s h t o a b n m = one_assembly words encodings refusals firsts texts outcomes events files runs
      reports histories scripts listing text r s (of_assembly listing text r a n) (of_assembly listing text s b m)
  one_answer (command.AsmRun options) text r s h t o a b n m = one_assembled_run words encodings refusals firsts texts outcomes events files
      runs reports histories scripts options.budget options.context.items text r s h a b n m
  one_answer (command.Disasm pc) text r s h t o a b n m = one_listing words encodings refusals firsts texts outcomes events files runs
      reports histories scripts pc text r s (of_listing pc text r a n) (of_listing pc text s b m)
  one_answer (command.Run options) text r s h t o a b n m =
      let by = options.by.items in
      let keys = options.keys in
      let maps = options.maps in
      let one = subst (λ (w : Option ℕ). IsRunBy w options.stats by keys maps text r) t a in
      let other = subst (λ (w : Option ℕ). IsRunBy w options.stats by keys maps text s) t b in
      one_of_file words encodings refusals firsts texts outcomes events files runs reports histories scripts (IsToldBy by keys maps)
      (one_told words encodings refusals firsts texts outcomes events files runs reports histories scripts by keys maps) text r s one other n m
  one_answer (command.History options) text r s h t o a b n m =
      let by = options.by.items in
      one_of_file words encodings refusals firsts texts outcomes events files runs reports histories scripts
      (IsHistoryBy by options.keys options.maps) (one_history words encodings refusals firsts texts outcomes events files runs reports
      histories scripts by options.keys options.maps) text r s a b n m
  one_answer (command.Packets options) text r s h t o a b n m =
      let by = options.by.items in
      let keys = options.keys in
      let maps = options.maps in
      one_of_file words encodings refusals firsts texts outcomes events files runs reports histories scripts (IsRunWithPackets by keys maps)
      (λ f shape can p q x y one other. carried (asked_world_of keys f) by f.names maps p q x y (fresh_asked keys f shape can) one other) text r s a b n m
  one_answer (command.X86 options) text r s h t o a b n m =
      let by = options.by.items in
      let maps = options.maps in
      one_of_file words encodings refusals firsts texts outcomes events files runs reports histories scripts (IsRunWithBuffers by maps)
      (λ f shape can p q x y one other. buffered (first_world_of f) by f.names maps p q x y (fresh f shape can) one other) text r s a b n m
  one_answer (command.X86History options) text r s h t o a b n m =
      let by = options.by.items in
      let maps = options.maps in
      one_of_file words encodings refusals firsts texts outcomes events files runs reports histories scripts (IsBufferHistory by maps)
      (λ f shape can p q x y one other. noted (first_world_of f) by f.names maps p q x y (fresh f shape can) one other) text r s a b n m
  one_answer (command.Judge options) text r s h t o a b n m = one_judged files runs reports options.by.items options.keys text r s a b n m
  one_answer (command.Debug echo strict) text r s h t o a b n m = one_debug files runs scripts echo strict text r s a b n m
  one_answer (command.DebugX86 echo strict) text r s h t o a b n m = absurd o
  one_answer (command.Explore options) text r s h t o a b n m = absurd o
  one_answer (command.ExploreX86 options) text r s h t o a b n m = absurd o
  one_answer (command.Show options) text r s h t o a b n m = absurd o
  one_answer (command.ShowX86 options) text r s h t o a b n m = absurd o
  one_answer (command.Races options) text r s h t o a b n m = absurd o
  one_answer (command.Check options) text r s h t o a b n m = absurd o
  one_answer (command.Expand first patient races) text r s h t o a b n m = absurd o
  one_answer (command.ExpandX86 first patient) text r s h t o a b n m = absurd o

  one_input : (c : Command) (input : List ℕ) (r s : Reply) → HasShortContext c → IsForOneThread c → IsForOneSchedule c → OfInput c input r →
      OfInput c input s → IsOfInput r → IsOfInput s → PrintsAs r s
  one_input c input r s h t o (TooLong long) (TooLong more) n m = prints r s refl
  one_input c input r s h t o (TooLong long) (NotText fits other) n m = absurd (omega arith)
  one_input c input r s h t o (TooLong long) (Answered q fits text b) n m = absurd (omega arith)
  one_input c input r s h t o (NotText fits other) (TooLong long) n m = absurd (omega arith)
  one_input c input r s h t o (NotText fits other) (NotText whole none) n m = prints r s refl
  one_input c input r s h t o (NotText fits other) (Answered q whole text b) n m = absurd (other text)
  one_input c input r s h t o (Answered q fits text a) (TooLong long) n m = absurd (omega arith)
  one_input c input r s h t o (Answered q fits text a) (NotText whole other) n m = absurd (other text)
  one_input c input r s h t o (Answered q fits text a) (Answered p whole known b) n m = one_answer c input r s h t o a b n m

  pub replies_are_determined : RepliesAreDetermined
  replies_are_determined c input r s h t o a b n m = one_input c input r s h t o (of_input c input r a n) (of_input c input s b m) n m
