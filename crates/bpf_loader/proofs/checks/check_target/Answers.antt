use Rattle.std.proofs.Common.{◌≡◌, ◌<◌, refl, sym, subst, pos, ℤ, arith}
use Rattle.std.proofs.lemmas.Int.{ints}
use Rattle.bpf_insn.specs.Table.{word_length}
use Rattle.bpf_loader.specs.Places.{IsSecondWord, target}
use Rattle.bpf_loader.proofs.CheckLemmas.{clear_past, none_and_at, none_and_none, some_and_at, not_outside}
use Rattle.bpf_loader.proofs.checks.check_target.Goals as goal

pub returns-in_default-clause-ok : goal.returns-in_default-clause-ok
returns-in_default-clause-ok c =
    clear_past _ _ _ 10 _ _ c.requires.begins
    (clear_past _ _ _ 9 _ _ c.requires.begins c.requires.clear (λ a. a) (none_and_none _ _ c.in_default.ensures))
    (λ a. a) (none_and_none _ _ c.in_default.ensures)

pub returns-in-Some-get-clause-ok : goal.returns-in-Some-get-clause-ok
returns-in-Some-get-clause-ok c =
    let is = c.args.slots.now in
    let to = c.in-Some-target_within.to in
    let aim : pos to ≡ target c.args.pc c.in-Some.offset = omega (arith, ints, c.in-Some-target_within.ensures.target) in
    let inside : to < word_length is = omega (arith, c.in-Some-target_within.ensures.inside, c.len.ensures) in
    let P : ℤ → Type 0 = λ t. IsSecondWord is t in
    clear_past _ _ _ 10 _ _ c.requires.begins
    (clear_past _ _ _ 9 _ _ c.requires.begins c.requires.clear (λ a. a) (none_and_at _ _ _ c.in-Some.ensures (not_outside _ _ _ aim inside)))
    (λ a. a) (none_and_at _ _ _ c.in-Some.ensures (λ second. c.in-Some-get.ensures.first (subst P (sym aim) second)))

pub returns-in-None-clause-err : goal.returns-in-None-clause-err
returns-in-None-clause-err c =
    let is = c.args.slots.now in
    let to = c.in-Some-target_within.to in
    let aim : pos to ≡ target c.args.pc c.in-Some.offset = omega (arith, ints, c.in-Some-target_within.ensures.target) in
    let inside : to < word_length is = omega (arith, c.in-Some-target_within.ensures.inside, c.len.ensures) in
    let P : ℤ → Type 0 = λ t. IsSecondWord is t in
    record {
      applies = (c.args.insn, c.requires.begins, some_and_at _ _ _ c.in-Some.ensures (subst P aim c.in-None.ensures.second));
      at = refl;
      least = clear_past _ _ _ 9 _ _ c.requires.begins c.requires.clear (λ a. a) (none_and_at _ _ _ c.in-Some.ensures (not_outside _ _ _ aim inside));
    }
