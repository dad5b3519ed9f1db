-- How the checks go on from one refusal to the next, and what a list that is clear at each word is.
use Rattle.std.proofs.Common.{◌≡◌, ◌≢◌, ℕ, ◌+◌, ◌<◌, ◌≤◌, inl, inr, List, [], Option, Some, None, cond, nat_eq, refl, sym, ap, subst, ◌∙◌, arith}
use Rattle.std.proofs.lemmas.Int.{ints}
use Rattle.std.specs.Prelude.{ℤ, pos, IsSomeAnd}
use Rattle.std.proofs.lemmas.Bool.{cases_eq}
use Rattle.bpf_loader.specs.declared.named.Named.{Named}
use Rattle.bpf_insn.specs.declared.instruction.Insn.{Insn}
use Rattle.bpf_insn.specs.Refusal.{max_words}
use Rattle.bpf_loader.specs.declared.refusal.LoadError.{LoadError}
use Rattle.bpf_loader.specs.declared.refusal.LoadError.TheVariants as error
use Rattle.bpf_insn.specs.Table.{word_length}
use Rattle.bpf_loader.specs.Places.{Begins, IsOutside}
use Rattle.bpf_loader.specs.Sound.{HasAt, Applies, IsSound, refusal_number, place}
use Rattle.bpf_loader.specs.Private.Checks.{IsClearBefore, IsClearBelow}
use Rattle.bpf_loader.proofs.MarkLemmas.{begins_unique}
use Rattle.bpf_loader.proofs.WordLemmas.{start_inside, words_some}

-- the refusal with this number at this place
abbrev pub error_at : ℕ → ℕ → LoadError
error_at number pc =
    cond (nat_eq number 1) error.Empty
    (cond (nat_eq number 3) error.TooLong
    (cond (nat_eq number 8) (error.WritesR10 pc)
    (cond (nat_eq number 9) (error.JumpOut pc)
    (cond (nat_eq number 10) (error.JumpIntoWide pc)
    (cond (nat_eq number 11) (error.FallsOff pc)
    (cond (nat_eq number 12) (error.UnknownHelper pc)
    (cond (nat_eq number 13) (error.UnknownMap pc) error.OutOfMemory)))))))

pub error_at_code : (e : LoadError) → error_at (refusal_number e) (place e) ≡ e
error_at_code error.Empty = refl
error_at_code error.TooLong = refl
error_at_code (error.WritesR10 pc) = refl
error_at_code (error.JumpOut pc) = refl
error_at_code (error.JumpIntoWide pc) = refl
error_at_code (error.FallsOff pc) = refl
error_at_code (error.UnknownHelper pc) = refl
error_at_code (error.UnknownMap pc) = refl
error_at_code error.OutOfMemory = refl

-- where the refusal with the next number doesn't apply, the checks go on to the one after it
pub clear_next : (named : Named) (is : List Insn) (pc number : ℕ) → IsClearBelow named is pc number → ¬ Applies named is
    (error_at number pc) → IsClearBelow named is pc (number + 1)
clear_next named is pc number clear not_here e applies at =
    let from = clear e applies at in
    elim (cases_eq number (refusal_number e)) [
      | inl same ↦
          let this : e ≡ error_at number pc = sym (error_at_code e) ∙ cc in
          absurd (not_here (subst (Applies named is) this applies))
      | inr other ↦ omega arith
    ]

-- or doesn't hold of the instruction that begins there
pub clear_past : (named : Named) (is : List Insn) (pc number : ℕ) (i : Insn) (P : Insn → Type 0) → Begins is pc i → IsClearBelow named is pc
    number → (Applies named is (error_at number pc) → HasAt is pc P) → ¬ P i → IsClearBelow named is pc (number + 1)
clear_past named is pc number i P b clear means not_it =
    clear_next named is pc number clear (λ applies. let has = means applies in not_it (subst P (begins_unique is pc has.0 i has.1 b) has.2))

-- a fact that doesn't hold of the value in an option, or of which there is no value
pub none_and_at : {A : Type 0} (P : A → Type 0) (o : Option A) (x : A) → Some x ≡ o → ¬ P x → ¬ IsSomeAnd o P
none_and_at {A} P o x e wrong w = wrong (let Q = λ (v : Option A). IsSomeAnd v P in subst Q (sym e) w)

pub none_and_none : {A : Type 0} (P : A → Type 0) (o : Option A) → None ≡ o → ¬ IsSomeAnd o P
none_and_none {A} P o e w = let Q = λ (v : Option A). IsSomeAnd v P in subst Q (sym e) w

pub some_and_at : {A : Type 0} (P : A → Type 0) (o : Option A) (x : A) → Some x ≡ o → P x → IsSomeAnd o P
some_and_at {A} P o x e h = let Q = λ (v : Option A). IsSomeAnd v P in subst Q e h

-- a target within the program
pub not_outside : (is : List Insn) (t : ℤ) (to : ℕ) → pos to ≡ t → to < word_length is → ¬ IsOutside is t
not_outside is t to e h w = elim w [ inl under ↦ omega (arith, ints) | inr over ↦ omega (arith, ints) ]

-- a list in which an instruction begins isn't empty
pub some_of_begins : (is : List Insn) (pc : ℕ) (i : Insn) → Begins is pc i → is ≢ []
some_of_begins is pc i b e = omega (arith, start_inside is pc i b, words_some i, ap word_length e)

-- refusals of a whole list come first
pub clear_from : (named : Named) (is : List Insn) (pc : ℕ) → is ≢ [] → word_length is ≤ max_words → IsClearBelow named is pc 8
clear_from named is pc some short error.Empty applies at = absurd (some applies)
clear_from named is pc some short error.TooLong applies at = absurd (omega (arith, applies))
clear_from named is pc some short (error.WritesR10 q) applies at = omega arith
clear_from named is pc some short (error.JumpOut q) applies at = omega arith
clear_from named is pc some short (error.JumpIntoWide q) applies at = omega arith
clear_from named is pc some short (error.FallsOff q) applies at = omega arith
clear_from named is pc some short (error.UnknownHelper q) applies at = omega arith
clear_from named is pc some short (error.UnknownMap q) applies at = omega arith
clear_from named is pc some short error.OutOfMemory applies at = absurd applies

-- a refusal that applies speaks of a word of the program
within : (named : Named) (is : List Insn) (e : LoadError) → is ≢ [] → word_length is ≤ max_words → Applies named is e → place e < word_length is
within named is error.Empty some short applies = absurd (some applies)
within named is error.TooLong some short applies = absurd (omega (arith, applies))
within named is (error.WritesR10 q) some short applies = omega (arith, start_inside is q applies.0 applies.1, words_some applies.0)
within named is (error.JumpOut q) some short applies = omega (arith, start_inside is q applies.0 applies.1, words_some applies.0)
within named is (error.JumpIntoWide q) some short applies = omega (arith, start_inside is q applies.0 applies.1, words_some applies.0)
within named is (error.FallsOff q) some short applies = omega (arith, start_inside is q applies.0 applies.1, words_some applies.0)
within named is (error.UnknownHelper q) some short applies = omega (arith, start_inside is q applies.0 applies.1, words_some applies.0)
within named is (error.UnknownMap q) some short applies = omega (arith, start_inside is q applies.0 applies.1, words_some applies.0)
within named is error.OutOfMemory some short applies = absurd applies

-- a program that is clear at each of its words is sound
pub sound_of_clear : (named : Named) (is : List Insn) → is ≢ [] → word_length is ≤ max_words → IsClearBefore named is (word_length is) → IsSound named is
sound_of_clear named is some short clear e applies =
    absurd (omega (arith, clear e applies, within named is e some short applies))
