-- How jobs ended, and what that is saved as.
use Rattle.std.proofs.Common.{◌≡◌, ℕ, ◌==◌, if◌then◌else◌, ◌<◌, ◌≤◌, ◌^◌, List, [], ◌∷◌, ◌++◌, length, get_or, refl, sym, ap, ◌∙◌, arith}
use Rattle.std.specs.Prelude.{All}
use Rattle.std.proofs.lemmas.List.Elements.{All-nil, All-cons}
use Rattle.bpf_mem.specs.Saved.{IsWord, words_saved}
use Rattle.bpf_mem.proofs.WordLemmas.{words_prefix}
use Rattle.bpf_helpers.proofs.SpanLemmas.{two_words}
use Rattle.bpf_cpu.specs.declared.outcome.Fault.{Fault as Reason}
use Rattle.bpf_cpu.specs.declared.outcome.Fault.TheVariants.{BadAddress, Misaligned, CallDepth, NotAMap, TooManyHeld, Worn, ReadOnly}
use Rattle.bpf_cpu.specs.declared.outcome.Outcome.{Outcome}
use Rattle.bpf_cpu.specs.declared.outcome.Outcome.TheVariants.{Exit, Fault, OutOfBudget}
use Rattle.bpf_cpu.specs.Saved.{fault_number, outcome_saved, outcome_words, IsSavableOutcome}

from_one : (f : Reason) → 1 ≤ fault_number f
from_one BadAddress = omega arith
from_one Misaligned = omega arith
from_one CallDepth = omega arith
from_one NotAMap = omega arith
from_one TooManyHeld = omega arith
from_one Worn = omega arith
from_one ReadOnly = omega arith

low_number : (f : Reason) → fault_number f < 9
low_number BadAddress = omega arith
low_number Misaligned = omega arith
low_number CallDepth = omega arith
low_number NotAMap = omega arith
low_number TooManyHeld = omega arith
low_number Worn = omega arith
low_number ReadOnly = omega arith

-- 7 is no fault's number, but that of a budget that ran out
not_seven : (f : Reason) → fault_number f ≡ 7 → ⊥
not_seven BadAddress e = cc
not_seven Misaligned e = cc
not_seven CallDepth e = cc
not_seven NotAMap e = cc
not_seven TooManyHeld e = cc
not_seven Worn e = cc
not_seven ReadOnly e = cc

pub two_long : (o : Outcome) → length (outcome_words o) ≡ 2
two_long (Exit number) = refl
two_long (Fault f pc) = refl
two_long (OutOfBudget pc) = refl

both : (a b : ℕ) → IsWord a → IsWord b → All IsWord (a ∷ b ∷ [])
both a b h k = All-cons IsWord a (b ∷ []) h (All-cons IsWord b [] k (All-nil IsWord))

pub outcome_fits : (o : Outcome) → IsSavableOutcome o → All IsWord (outcome_words o)
outcome_fits (Exit number) h = both 0 number (omega arith) h
outcome_fits (Fault f pc) h = let k = low_number f in both (fault_number f) pc (omega arith) (omega arith)
outcome_fits (OutOfBudget pc) h = both 7 pc (omega arith) (omega arith)

-- ---- which outcome two words are
pub far_none : (kind number : ℕ) → (kind ≡ 0 → ⊥) → 2 ^ 32 ≤ number → (o : Outcome) → IsSavableOutcome o → outcome_words o ≡ kind ∷ number ∷ [] → ⊥
far_none kind number some far (Exit x) h e = let z : 0 ≡ kind = ap (λ (l : List ℕ). get_or l 0 0) e in some (sym z)
far_none kind number some far (Fault f pc) h e = let n : pc ≡ number = ap (λ (l : List ℕ). get_or l 1 0) e in omega arith
far_none kind number some far (OutOfBudget pc) h e = let n : pc ≡ number = ap (λ (l : List ℕ). get_or l 1 0) e in omega arith

pub other_none : (kind number : ℕ) → (kind ≡ 0 → ⊥) → (kind ≡ 7 → ⊥) → ((f : Reason) → fault_number f ≡ kind → ⊥) → (o : Outcome) →
    IsSavableOutcome o → outcome_words o ≡ kind ∷ number ∷ [] → ⊥
other_none kind number some off none (Exit x) h e = let z : 0 ≡ kind = ap (λ (l : List ℕ). get_or l 0 0) e in some (sym z)
other_none kind number some off none (Fault f pc) h e = none f (ap (λ (l : List ℕ). get_or l 0 0) e)
other_none kind number some off none (OutOfBudget pc) h e = let s : 7 ≡ kind = ap (λ (l : List ℕ). get_or l 0 0) e in off (sym s)

-- ---- reading
pub outcome_read : (bytes words rest : List ℕ) (o : Outcome) → length words ≡ 2 → outcome_words o ≡ get_or words 0 0 ∷ get_or words 1 0 ∷ []
    → bytes ≡ words_saved 0 words ++ rest → bytes ≡ outcome_saved o ++ rest
unfolding outcome_saved
outcome_read bytes words rest o size is read = read ∙ ap (λ (l : List ℕ). words_saved 0 l ++ rest) (two_words words size ∙ sym is)

pub no_words : (bytes : List ℕ) → ((others rest : List ℕ) → length others ≡ 2 → All IsWord others → bytes ≡ words_saved 0 others ++ rest → ⊥)
    → (other : Outcome) (more : List ℕ) → IsSavableOutcome other → bytes ≡ outcome_saved other ++ more → ⊥
unfolding outcome_saved
no_words bytes none other more h e = none (outcome_words other) more (two_long other) (outcome_fits other h) e

pub no_outcome : (bytes words rest : List ℕ) → length words ≡ 2 → All IsWord words → bytes ≡ words_saved 0 words ++ rest
    → ((o : Outcome) → IsSavableOutcome o → outcome_words o ≡ get_or words 0 0 ∷ get_or words 1 0 ∷ [] → ⊥)
    → (other : Outcome) (more : List ℕ) → IsSavableOutcome other → bytes ≡ outcome_saved other ++ more → ⊥
unfolding outcome_saved
no_outcome bytes words rest size fit read none other more h e =
    let same = words_prefix 0 words (outcome_words other) rest more (size ∙ sym (two_long other)) fit (outcome_fits other h) (sym read ∙ e) in
    none other h (sym same.0 ∙ two_words words size)

-- ---- equal bytes are those of equal outcomes
named : ℕ → Reason
named n = if n == 1 then BadAddress else if n == 2 then Misaligned else if n == 3 then CallDepth else if n == 4 then NotAMap else if n == 5
    then TooManyHeld else if n == 6 then Worn else ReadOnly

named_back : (f : Reason) → named (fault_number f) ≡ f
unfolding named
named_back BadAddress = refl
named_back Misaligned = refl
named_back CallDepth = refl
named_back NotAMap = refl
named_back TooManyHeld = refl
named_back Worn = refl
named_back ReadOnly = refl

same_fault : (f g : Reason) → fault_number f ≡ fault_number g → f ≡ g
same_fault f g e = sym (named_back f) ∙ (ap named e ∙ named_back g)

first : (a b c d : ℕ) → a ∷ b ∷ [] ≡ c ∷ d ∷ [] → a ≡ c
first a b c d e = ap (λ (l : List ℕ). get_or l 0 0) e

second : (a b c d : ℕ) → a ∷ b ∷ [] ≡ c ∷ d ∷ [] → b ≡ d
second a b c d e = ap (λ (l : List ℕ). get_or l 1 0) e

same_outcome : (x y : Outcome) → outcome_words x ≡ outcome_words y → x ≡ y
same_outcome (Exit a) (Exit b) e = ap (λ (n : ℕ). Exit n) (second 0 a 0 b e)
same_outcome (Exit a) (Fault g b) e = let k = first 0 a (fault_number g) b e in let l = from_one g in absurd (omega arith)
same_outcome (Exit a) (OutOfBudget b) e = let k = first 0 a 7 b e in absurd (omega arith)
same_outcome (Fault f a) (Exit b) e = let k = first (fault_number f) a 0 b e in let l = from_one f in absurd (omega arith)
same_outcome (Fault f a) (Fault g b) e = ap (λ (r : Reason). Fault r a) (same_fault f g (first (fault_number f) a (fault_number g) b e)) ∙
    ap (λ (n : ℕ). Fault g n) (second (fault_number f) a (fault_number g) b e)
same_outcome (Fault f a) (OutOfBudget b) e = absurd (not_seven f (first (fault_number f) a 7 b e))
same_outcome (OutOfBudget a) (Exit b) e = let k = first 7 a 0 b e in absurd (omega arith)
same_outcome (OutOfBudget a) (Fault g b) e = absurd (not_seven g (sym (first 7 a (fault_number g) b e)))
same_outcome (OutOfBudget a) (OutOfBudget b) e = ap (λ (n : ℕ). OutOfBudget n) (second 7 a 7 b e)

pub outcomes_told : (x y : Outcome) (rest more : List ℕ) → IsSavableOutcome x → IsSavableOutcome y → outcome_saved x ++ rest ≡ outcome_saved
    y ++ more → (x ≡ y) × (rest ≡ more)
unfolding outcome_saved
outcomes_told x y rest more h k e =
    let same = words_prefix 0 (outcome_words x) (outcome_words y) rest more (two_long x ∙ sym (two_long y)) (outcome_fits x h) (outcome_fits y k) e in
    (same_outcome x y same.0, same.1)
