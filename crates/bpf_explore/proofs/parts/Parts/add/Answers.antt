use Rattle.std.proofs.Common.{◌≡◌, ◌<◌, ◌++◌, ◌∷◌, [], ℕ, List, length, sym, ap, subst, length-append, arith, ◌∙◌}
use Rattle.bpf_cpu.specs.Task.{Task}
use Rattle.bpf_explore.specs.Private.Slots.{IsPut}
use Rattle.bpf_explore.specs.Private.Kept.{HoldsParts, part_at}
use Rattle.bpf_explore.proofs.KeptLaws.{still_holds_parts, one_more_part, part_new}
use Rattle.bpf_explore.proofs.parts.Parts.add.Goals as goal

pub invariant_of-self : goal.invariant_of-self
invariant_of-self c =
    let m = c.self.inside in
    still_holds_parts m.kept.items m.slots.items c.note.new.slots.items c.note.ensures.keeps c.self.invariant

pub invariant_of-self-in_err-push : goal.invariant_of-self-in_err-push
invariant_of-self-in_err-push c =
    let m = c.self.inside in
    subst (λ (ts : List Task). HoldsParts ts c.note.new.slots.items) (sym c.in_err-push.ensures.items)
    (still_holds_parts m.kept.items m.slots.items c.note.new.slots.items c.note.ensures.keeps c.self.invariant)

pub invariant_of-self-2 : goal.invariant_of-self-2
invariant_of-self-2 c =
    let m = c.self.inside in
    let fresh = subst (λ (ts : List Task). (n : ℕ) → n < length ts → part_at ts n ≡ c.args.job → ⊥) (sym c.self.view_is) c.requires.new in
    let count : c.len-number.result ≡ length m.kept.items = omega (arith, c.len-number.ensures, m.kept.ok.0) in
    let put = subst (λ (h : ℕ). IsPut c.note.new.slots.items h (length m.kept.items)) c.requires.hash
    (subst (IsPut c.note.new.slots.items c.args.hash) count c.in_ok-note.ensures.put) in
    subst (λ (ts : List Task). HoldsParts ts c.note.new.slots.items) (sym c.in_ok-push.ensures.items)
    (one_more_part m.kept.items c.args.job m.slots.items c.note.new.slots.items c.note.ensures.keeps c.self.invariant fresh put)

pub returns-clause-is : goal.returns-clause-is
returns-clause-is c =
    let m = c.self.inside in
    let count : c.len-number.result ≡ length m.kept.items = omega (arith, c.len-number.ensures, m.kept.ok.0) in
    ap (λ (ts : List Task). part_at ts c.len-number.result) c.in_ok-push.ensures.items ∙
    (ap (part_at (m.kept.items ++ c.args.job ∷ [])) count ∙ part_new m.kept.items c.args.job)

pub returns-clause-within : goal.returns-clause-within
returns-clause-within c =
    let m = c.self.inside in
    let count : c.len-number.result ≡ length m.kept.items = omega (arith, c.len-number.ensures, m.kept.ok.0) in
    let size = length-append m.kept.items (c.args.job ∷ []) in
    subst (λ (ts : List Task). c.len-number.result < length ts) (sym c.in_ok-push.ensures.items) (omega arith)
