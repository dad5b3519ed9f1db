use Rattle.std.proofs.Common.{◌++◌, ◌∷◌, [], ◌∙◌, ap, List, ℕ}
use Rattle.std.specs.Io.{StartsWith}
use Rattle.std.proofs.Transfers.{starts_with_of_append, starts_with_trans}
use Rattle.std.proofs.lemmas.Result.{on_err_weaker, on_ok_weaker}
use Rattle.bpf_base.specs.Bytes.{low_bytes}
use Rattle.bpf_mem.specs.Saved.{frames_saved, words_saved}
use Rattle.bpf_mem.proofs.Fronts.{starts_more}
use Rattle.bpf_helpers.specs.Saved.{spans_saved}
use Rattle.bpf_cpu.specs.Saved.{cpu_saved}
use Rattle.bpf_cpu.proofs.SavedStates.{joined, on_err}
use Rattle.bpf_cpu.proofs.cpu.Cpu.save.Goals as goal

pub returns-in_err-save_count-clause-err : goal.returns-in_err-save_count-clause-err
returns-in_err-save_count-clause-err c =
    let cpu = c.args.self.now in
    let old = c.args.out.now.items in
    let first = c.save_pc.new.out.items in
    let mid = c.save_words.new.out.items in
    let new = c.save_count.new.out.items in
    let s1 : StartsWith first old = starts_with_of_append first old (low_bytes 4 cpu.pc) c.in_ok-save_pc.ensures.ok in
    let s2 : StartsWith mid old = starts_more mid first old (words_saved 0 cpu.registers) c.in_ok-save_words.ensures.ok s1 in
    on_err c.from_residual-in_err-save_count.result (starts_with_trans new mid old c.in_err-save_count.ensures.err s2)

pub returns-in_err-save-clause-err : goal.returns-in_err-save-clause-err
returns-in_err-save-clause-err c =
    let cpu = c.args.self.now in
    let old = c.args.out.now.items in
    let first = c.save_pc.new.out.items in
    let second = c.save_words.new.out.items in
    let mid = c.save_count.new.out.items in
    let new = c.save.new.out.items in
    let s1 : StartsWith first old = starts_with_of_append first old (low_bytes 4 cpu.pc) c.in_ok-save_pc.ensures.ok in
    let s2 : StartsWith second old = starts_more second first old (words_saved 0 cpu.registers) c.in_ok-save_words.ensures.ok s1 in
    let s3 : StartsWith mid old = starts_more mid second old (words_saved 0 (cpu.drawn ∷ [])) c.in_ok-save_count.ensures.ok s2 in
    on_err c.from_residual-in_err-save.result (starts_with_trans new mid old c.in_err-save.ensures.err s3)

pub returns-in_err-save-2-clause-err : goal.returns-in_err-save-2-clause-err
returns-in_err-save-2-clause-err c =
    let cpu = c.args.self.now in
    let old = c.args.out.now.items in
    let first = c.save_pc.new.out.items in
    let second = c.save_words.new.out.items in
    let third = c.save_count.new.out.items in
    let mid = c.save.new.out.items in
    let new = c.save-2.new.out.items in
    let s1 : StartsWith first old = starts_with_of_append first old (low_bytes 4 cpu.pc) c.in_ok-save_pc.ensures.ok in
    let s2 : StartsWith second old = starts_more second first old (words_saved 0 cpu.registers) c.in_ok-save_words.ensures.ok s1 in
    let s3 : StartsWith third old = starts_more third second old (words_saved 0 (cpu.drawn ∷ [])) c.in_ok-save_count.ensures.ok s2 in
    let s4 : StartsWith mid old = starts_more mid third old (frames_saved cpu.memory.frames) c.in_ok-save.ensures.ok s3 in
    on_err c.from_residual-in_err-save-2.result (starts_with_trans new mid old c.in_err-save-2.ensures.err s4)

pub returns-in_err-save_bytes-clause-err : goal.returns-in_err-save_bytes-clause-err
returns-in_err-save_bytes-clause-err c =
    let cpu = c.args.self.now in
    let old = c.args.out.now.items in
    let first = c.save_pc.new.out.items in
    let second = c.save_words.new.out.items in
    let third = c.save_count.new.out.items in
    let fourth = c.save.new.out.items in
    let mid = c.save-2.new.out.items in
    let new = c.save_bytes.new.out.items in
    let s1 : StartsWith first old = starts_with_of_append first old (low_bytes 4 cpu.pc) c.in_ok-save_pc.ensures.ok in
    let s2 : StartsWith second old = starts_more second first old (words_saved 0 cpu.registers) c.in_ok-save_words.ensures.ok s1 in
    let s3 : StartsWith third old = starts_more third second old (words_saved 0 (cpu.drawn ∷ [])) c.in_ok-save_count.ensures.ok s2 in
    let s4 : StartsWith fourth old = starts_more fourth third old (frames_saved cpu.memory.frames) c.in_ok-save.ensures.ok s3 in
    let s5 : StartsWith mid old = starts_more mid fourth old (spans_saved cpu.held) c.in_ok-save-2.ensures.ok s4 in
    on_err c.from_residual-in_err-save_bytes.result (starts_with_trans new mid old c.in_err-save_bytes.ensures.err s5)

pub returns-clause-err : goal.returns-clause-err
returns-clause-err c =
    let cpu = c.args.self.now in
    let old = c.args.out.now.items in
    let first = c.save_pc.new.out.items in
    let second = c.save_words.new.out.items in
    let third = c.save_count.new.out.items in
    let fourth = c.save.new.out.items in
    let fifth = c.save-2.new.out.items in
    let mid = c.save_bytes.new.out.items in
    let new = c.save_bytes-2.new.out.items in
    let s1 : StartsWith first old = starts_with_of_append first old (low_bytes 4 cpu.pc) c.in_ok-save_pc.ensures.ok in
    let s2 : StartsWith second old = starts_more second first old (words_saved 0 cpu.registers) c.in_ok-save_words.ensures.ok s1 in
    let s3 : StartsWith third old = starts_more third second old (words_saved 0 (cpu.drawn ∷ [])) c.in_ok-save_count.ensures.ok s2 in
    let s4 : StartsWith fourth old = starts_more fourth third old (frames_saved cpu.memory.frames) c.in_ok-save.ensures.ok s3 in
    let s5 : StartsWith fifth old = starts_more fifth fourth old (spans_saved cpu.held) c.in_ok-save-2.ensures.ok s4 in
    let s6 : StartsWith mid old = starts_more mid fifth old c.bytes.result.now c.in_ok-save_bytes.ensures.ok s5 in
    on_err_weaker c.save_bytes-2.result (λ s. starts_with_trans new mid old s s6) c.save_bytes-2.ensures.err

pub returns-clause-ok : goal.returns-clause-ok
unfolding cpu_saved
returns-clause-ok c =
    let cpu = c.args.self.now in
    let near = c.save-2.new.out.items in
    let last = c.save_bytes.new.out.items in
    on_ok_weaker c.save_bytes-2.result (λ e.
    joined c.args.out.now.items (low_bytes 4 cpu.pc) (words_saved 0 cpu.registers) (words_saved 0 (cpu.drawn ∷ []))
    (frames_saved cpu.memory.frames) (spans_saved cpu.held) cpu.memory.context cpu.memory.packet
    c.save_pc.new.out.items c.save_words.new.out.items c.save_count.new.out.items c.save.new.out.items near last c.save_bytes-2.new.out.items
    c.in_ok-save_pc.ensures.ok c.in_ok-save_words.ensures.ok c.in_ok-save_count.ensures.ok c.in_ok-save.ensures.ok c.in_ok-save-2.ensures.ok
    (c.in_ok-save_bytes.ensures.ok ∙ ap (λ (l : List ℕ). near ++ l) c.bytes.ensures.value)
    (e ∙ ap (λ (l : List ℕ). last ++ l) c.bytes-2.ensures.value)) c.save_bytes-2.ensures.ok
