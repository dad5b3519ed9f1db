use Rattle.std.proofs.Common.{◌≡◌, ◌∙◌, length, subst, sym, arith}
use Rattle.bpf_machine.specs.declared.machine.parts.compact.CompactStage.{CompactStage}
use Rattle.bpf_cpu.specs.declared.cpu.Cpu.{Cpu}
use Rattle.bpf_cpu.specs.Saved.{IsOfOneJob}
use Rattle.bpf_plain.proofs.Options.{at_none}
use Rattle.bpf_machine.specs.Kept.{compact_stage}
use Rattle.bpf_machine.specs.Private.Parts.{HasRoom}
use Rattle.bpf_machine.proofs.StageLemmas.{hand_no_word, hand_no_state}
use Rattle.bpf_machine.proofs.machine.parts.reading.read_hand.Goals as goal

pub returns-in_default-clause-none : goal.returns-in_default-clause-none
returns-in_default-clause-none c = λ state left more is may e.
    hand_no_word c.args.cpu c.args.input.now c.args.bytes.now state left more is may e c.in_default.ensures.none

pub returns-in-None-clause-none : goal.returns-in-None-clause-none
returns-in-None-clause-none c = λ state left more is may e.
    let size : length c.read_words.new.words ≡ 1 = omega (arith, c.read_words.auto.words) in
    let own : (length c.in-InHand.state.memory.context ≡ length c.args.input.now.context) ×
    (length c.in-InHand.state.memory.packet ≡ length c.args.input.now.packet) = subst
    (λ (s : CompactStage). HasRoom c.args.input.now (compact_stage s)) c.in-InHand.is c.in_ok-make_room.ensures in
    hand_no_state c.args.cpu c.args.input.now c.args.bytes.now state left more is may e c.read_words.new.words c.in-Some.rest.now size
    c.in-Some.ensures.fit c.in-Some.ensures.some
    (λ other later good held job f. at_none _ _ c.in-None.is c.in_ok-behind-in-InHand.ensures.none other later good held
    (subst (λ (s : Cpu). IsOfOneJob s other) (sym c.set_job.ensures) (job.0, job.1 ∙ sym own.0, job.2, job.3 ∙ sym own.1)) f)
