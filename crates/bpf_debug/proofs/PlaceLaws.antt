-- What addresses in values of arrays are called.
use Rattle.std.proofs.Common.{◌≡◌, ℕ, ◌/◌, ◌%◌, ◌<◌, ◌++◌, ◌&&◌, nat_lt, Bool, true, false, List, [], if◌then◌else◌, sym, ap, subst, ◌∙◌}
use Rattle.std.specs.Prelude.{codes}
use Rattle.std.proofs.lemmas.Bool.{lt-ltb}
use Rattle.bpf_shared.specs.declared.shapes.ArrayShape.{ArrayShape}
use Rattle.bpf_shared.specs.Shape.{array_stride, copies, copy_stride}
use Rattle.bpf_jobs.specs.Printed.{place_text}
use Rattle.bpf_debug.specs.Show.{copy_in, element_name, element_words, index_in, is_in_value, past_in, place_words}

chosen : (b : Bool) (x : List ℕ) → b ≡ true → (if b then x else []) ≡ x
chosen true x e = λ i. x
chosen false x e = absurd (cc)

all_three : (a b c : Bool) → a ≡ true → b ≡ true → c ≡ true → (a && (b && c)) ≡ true
all_three a b c x y z = cc

-- of an offset that is in a value
pub named : (cpus : ℕ) (name : List ℕ) (g : ArrayShape) (offset : ℕ) (text : List ℕ) → copy_in g offset < copies cpus g → index_in g offset
    < g.max → past_in g offset < g.value
    → text ≡ place_words (element_name name g offset) (past_in g offset) → text ≡ element_words cpus name g offset
named cpus name g offset text copy index past is = is ∙ sym (chosen (is_in_value cpus g offset) (place_words (element_name name g offset) (past_in g offset))
    (all_three (nat_lt (copy_in g offset) (copies cpus g)) (nat_lt (index_in g offset) g.max) (nat_lt (past_in g offset) g.value)
    (lt-ltb (copy_in g offset) (copies cpus g) copy) (lt-ltb (index_in g offset) g.max index) (lt-ltb (past_in g offset) g.value past)))
