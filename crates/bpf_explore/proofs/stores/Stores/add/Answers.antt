use Rattle.std.proofs.Common.{◌≡◌, ◌<◌, ◌++◌, ◌∷◌, [], ℕ, List, length, sym, ap, subst, length-append, arith, ◌∙◌}
use Rattle.bpf_plain.specs.PlainStore.{Contents, IsSavedAs}
use Rattle.bpf_explore.specs.Private.Slots.{IsPut}
use Rattle.bpf_explore.specs.Private.Kept.{HoldsStores, store_at}
use Rattle.bpf_explore.proofs.KeptLaws.{still_holds_stores, one_more_store, store_new}
use Rattle.bpf_explore.proofs.stores.Stores.add.Goals as goal

pub invariant_of-self : goal.invariant_of-self
invariant_of-self c =
    let m = c.self.inside in
    still_holds_stores m.kept.items m.slots.items c.note.new.slots.items c.note.ensures.keeps c.self.invariant

pub invariant_of-self-in_err-push : goal.invariant_of-self-in_err-push
invariant_of-self-in_err-push c =
    let m = c.self.inside in
    subst (λ (ps : List Contents). HoldsStores ps c.note.new.slots.items) (sym c.in_err-push.ensures.items)
    (still_holds_stores m.kept.items m.slots.items c.note.new.slots.items c.note.ensures.keeps c.self.invariant)

pub invariant_of-self-2 : goal.invariant_of-self-2
invariant_of-self-2 c =
    let m = c.self.inside in
    let fresh = subst (λ (ps : List Contents). (n : ℕ) → n < length ps → IsSavedAs (store_at ps n) c.args.bytes.now → ⊥) (sym c.self.view_is) c.requires.new in
    let count : c.len-number.result ≡ length m.kept.items = omega (arith, c.len-number.ensures, m.kept.ok.0) in
    let put = subst (λ (h : ℕ). IsPut c.note.new.slots.items h (length m.kept.items)) c.requires.hash
    (subst (IsPut c.note.new.slots.items c.args.hash) count c.in_ok-note.ensures.put) in
    subst (λ (ps : List Contents). HoldsStores ps c.note.new.slots.items) (sym c.in_ok-push.ensures.items)
    (one_more_store m.kept.items c.args.saved c.args.bytes.now m.slots.items c.note.new.slots.items c.note.ensures.keeps c.self.invariant
    c.requires.saved fresh put)

pub returns-clause-is : goal.returns-clause-is
returns-clause-is c =
    let m = c.self.inside in
    let count : c.len-number.result ≡ length m.kept.items = omega (arith, c.len-number.ensures, m.kept.ok.0) in
    ap (λ (ps : List Contents). store_at ps c.len-number.result) c.in_ok-push.ensures.items ∙
    (ap (store_at (m.kept.items ++ c.args.saved ∷ [])) count ∙ store_new m.kept.items c.args.saved)

pub returns-clause-within : goal.returns-clause-within
returns-clause-within c =
    let m = c.self.inside in
    let count : c.len-number.result ≡ length m.kept.items = omega (arith, c.len-number.ensures, m.kept.ok.0) in
    let size = length-append m.kept.items (c.args.saved ∷ []) in
    subst (λ (ps : List Contents). c.len-number.result < length ps) (sym c.in_ok-push.ensures.items) (omega arith)
