-- Two CPUs and one array: the premises of the law are met.
use Rattle.std.proofs.Common.{◌≡◌, ℕ, zero, suc, ◌<◌, ◌≤◌, Bool, true, false, List, [], ◌∷◌, ◌++◌, length, Some, None, inr, refl, sym, ap, subst, ◌∙◌, arith}
use Rattle.std.specs.Prelude.{All, slice_get}
use Rattle.bpf_insn.specs.declared.instruction.Insn.{Insn}
use Rattle.bpf_insn.specs.declared.instruction.Insn.TheVariants.{CallHelper}
use Rattle.bpf_shared.specs.declared.shapes.ArrayShape.{ArrayShape}
use Rattle.bpf_shared.specs.declared.shapes.MapShape.{MapShape}
use Rattle.bpf_shared.specs.Shape.{IsMap, IsMapShape, IsArray, IsArrayShape, contents_of, copy_size}
use Rattle.bpf_cpu.specs.Input.{IsShort, no_input}
use Rattle.bpf_cpu.specs.declared.input.Input.{Input}
use Rattle.bpf_cpu.specs.Task.{Task, Waiting}
use Rattle.bpf_threads.specs.Outside.{AllReadOutside}
use Rattle.bpf_threads.specs.Threads.{IsReadWhole}
use Rattle.bpf_agreement.specs.Example.{one_word, one_array, stores_and_loads, job_on, IsExample}

-- ---- no instruction is a call
abbrev is_call : Insn → Bool
is_call (CallHelper n) = true
is_call i = false

abbrev AreNoCalls : List Insn → Type 0
AreNoCalls [] = Unit {0}
AreNoCalls (i ∷ is) = (is_call i ≡ false) × AreNoCalls is

no_call : (is before after : List Insn) (n : ℕ) → AreNoCalls is → is ≡ before ++ CallHelper n ∷ after → ⊥
no_call [] [] after n none e = cc
no_call [] (b ∷ before) after n none e = cc
no_call (i ∷ is) [] after n none e = let first : i ≡ CallHelper n = cc in let no : true ≡ false = ap is_call (sym first) ∙ none.0 in cc
no_call (i ∷ is) (b ∷ before) after n none e = let rest : is ≡ before ++ CallHelper n ∷ after = cc in no_call is before after n none.1 rest

reads : AllReadOutside one_array stores_and_loads
reads number steps input now helper leads begins = absurd (no_call stores_and_loads.instructions begins.before begins.after helper
    (refl, (refl, (refl, (refl, tt)))) begins.parts)

-- ---- sizes
no_map : (m : ℕ) (h : MapShape) → IsMap [] m h → IsMapShape h
no_map m h at = absurd (nothing at)
  where
    nothing : None ≡ Some h → ⊥
    nothing e = cc

sizes : (a : ℕ) (g : ArrayShape) → IsArray one_array.arrays a g → IsArrayShape 2 g × (length (contents_of one_array a) ≤ copy_size g)
sizes zero g at =
    subst (λ (x : ArrayShape). IsArrayShape 2 x × (length (contents_of one_array 0) ≤ copy_size x)) (one g at)
    (record { value = (omega arith, omega arith); max = (omega arith, omega arith); whole = omega arith }, omega arith)
  where
    one : (g : ArrayShape) → Some one_word ≡ Some g → one_word ≡ g
    one g e = cc
sizes (suc a) g at = absurd (nothing g at)
  where
    nothing : (g : ArrayShape) → None ≡ Some g → ⊥
    nothing g e = cc

-- ---- jobs
waits : (j : ℕ) (task : Task) → slice_get (job_on 0 ∷ job_on 1 ∷ []) j ≡ Some task → (input : Input) × (task.stage ≡ Waiting input) × (IsShort input)
waits zero task at = (no_input, (ap (λ (t : Task). t.stage) (same (job_on 0) task at)), omega arith)
  where
    same : (x y : Task) → Some x ≡ Some y → y ≡ x
    same x y e = cc
waits (suc zero) task at = (no_input, (ap (λ (t : Task). t.stage) (same (job_on 1) task at)), omega arith)
  where
    same : (x y : Task) → Some x ≡ Some y → y ≡ x
    same x y e = cc
waits (suc (suc j)) task at = absurd (nothing task at)
  where
    nothing : (x : Task) → None ≡ Some x → ⊥
    nothing x e = cc

whole : All (IsReadWhole one_array (stores_and_loads ∷ [])) (job_on 0 ∷ job_on 1 ∷ [])
whole zero d inside = (stores_and_loads, refl, reads)
whole (suc zero) d inside = (stores_and_loads, refl, reads)
whole (suc (suc i)) d inside = absurd (let h : suc (suc i) < 2 = inside in omega arith)

pub is_example : IsExample
is_example = record {
  shape = record {
    cpus = (omega arith, omega arith);
    count = omega arith;
    each = no_map;
    array_count = omega arith;
    arrays = sizes;
  };
  maps = refl;
  waits = waits;
  few = (let few : 2 < 4611686018427387904 = omega arith in few);
  whole = inr whole;
}
