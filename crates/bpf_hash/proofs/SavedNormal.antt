-- The normal form of contents is saved as the same bytes.
use Rattle.std.proofs.Common.{◌≡◌, ◌∙◌, Option, Some, None, ℕ, ◌+◌, ◌<◌, Bool, true, false, ◌||◌, if◌then◌else◌, List, [], ◌∷◌, ◌++◌, ◌≤◌}
use Rattle.std.proofs.Common.{length, take, map, refl, sym, ap, subst, arith}
use Rattle.std.specs.Prelude.{IfSome, IfNone}
use Rattle.std.proofs.lemmas.List.{length-map, length-take-le}
use Rattle.bpf_hash.specs.declared.runs.Runs.{Runs}
use Rattle.bpf_shared.specs.Shape.{elements}
use Rattle.bpf_hash.specs.Private.Runs.{run_of, is_run}
use Rattle.bpf_hash.specs.Private.Rows.{Rows, key_of, bytes_of, run_looked_up, run_left, IsTable}
use Rattle.bpf_hash.specs.Private.Contents.{Contents, rows, any_below, IsStore}
use Rattle.bpf_hash.specs.Private.Saved.{bit, all_below, holds_row, keeps_row, note_of, notes_of, is_linked, marks_of, is_noted, content_of}
use Rattle.bpf_hash.specs.Private.Saved.{block_of, map_block, is_in_run, saved, IsSavedAs}
use Rattle.bpf_hash.specs.Private.Normal.{first_run, normal_rows, normal}
use Rattle.bpf_hash.specs.Alike.{IsSameShape}
use Rattle.bpf_hash.specs.Read.{IsSavedFirst, IsRead, SavesNone}
use Rattle.bpf_hash.proofs.AnyBelow.{any_below_same}
use Rattle.bpf_hash.proofs.SavedAlike.{below_same}
use Rattle.bpf_hash.proofs.Normal.{first_run_of, normal_row, same_run, key_kept, value_kept, held_kept, left_kept, normal_store}

some_same : (a : Bool) (xs ys : List ℕ) → (a ≡ true → xs ≡ ys) → (if a then xs else []) ≡ (if a then ys else [])
some_same true xs ys same = same refl
some_same false xs ys same = refl

module _ (runs : List Runs) (t : Rows) (is : IsTable t) (cpus : length runs ≡ t.cpus) where
  abbrev firsts : List Runs
  firsts = map first_run runs

  abbrev new : Rows
  new = normal_rows runs t

  module _ (i : ℕ) (inside : i < elements t.shape) where
    hold_same : (c : ℕ) → c < length runs → holds_row new i c (run_of firsts c) ≡ holds_row t i c (run_of runs c)
    hold_same c l =
        ap (λ (r : Runs). is_run r (run_looked_up new i c)) (first_run_of runs c l)
        ∙ (ap (λ (x : ℕ). is_run (first_run (run_of runs c)) x) (held_kept runs t is cpus i c inside l) ∙ same_run (run_of runs c) (run_looked_up t i c))

    keep_same : (c : ℕ) → c < length runs → keeps_row new i c (run_of firsts c) ≡ keeps_row t i c (run_of runs c)
    keep_same c l =
        ap (λ (r : Runs). is_run r (run_left new i c)) (first_run_of runs c l)
        ∙ (ap (λ (x : ℕ). is_run (first_run (run_of runs c)) x) (left_kept runs t is cpus i c inside l) ∙ same_run (run_of runs c) (run_left t i c))

    note_same : (c : ℕ) → c < length runs → note_of new i c (run_of firsts c) ≡ note_of t i c (run_of runs c)
    note_same c l =
        ap (λ (b : Bool). bit 1 b + bit 2 (keeps_row new i c (run_of firsts c))) (hold_same c l)
        ∙ ap (λ (b : Bool). bit 1 (holds_row t i c (run_of runs c)) + bit 2 b) (keep_same c l)

    notes_same : notes_of firsts new i ≡ notes_of runs t i
    notes_same =
        ap (λ (n : ℕ). all_below (λ c. note_of new i c (run_of firsts c) ∷ []) n) (length-map runs first_run)
        ∙ below_same (λ c. note_of new i c (run_of firsts c) ∷ []) (λ c. note_of t i c (run_of runs c) ∷ []) (length runs)
        (λ c l. ap (λ (x : ℕ). x ∷ []) (note_same c l))

    noted_same : is_noted firsts new i ≡ is_noted runs t i
    noted_same =
        ap (λ (n : ℕ). any_below n (λ c. holds_row new i c (run_of firsts c) || keeps_row new i c (run_of firsts c))) (length-map runs first_run)
        ∙ any_below_same (length runs) (λ c. holds_row t i c (run_of runs c) || keeps_row t i c (run_of runs c))
        (λ c. holds_row new i c (run_of firsts c) || keeps_row new i c (run_of firsts c))
        (λ c l. ap (λ (b : Bool). b || keeps_row new i c (run_of firsts c)) (hold_same c l) ∙ ap
        (λ (b : Bool). holds_row t i c (run_of runs c) || b) (keep_same c l))

    abbrev used : Bool
    used = is_linked t i || is_noted runs t i

    content_same : content_of firsts new i ≡ content_of runs t i
    content_same =
        ap (λ (b : Bool). (if is_linked t i then key_of new i else []) ++ (if is_linked t i || b then bytes_of new i else [])) noted_same
        ∙ (ap (λ (bs : List ℕ). bs ++ (if used then bytes_of new i else []))
        (some_same (is_linked t i) (key_of new i) (key_of t i) (key_kept runs t is cpus i inside))
        ∙ ap (λ (bs : List ℕ). (if is_linked t i then key_of t i else []) ++ bs)
        (some_same used (bytes_of new i) (bytes_of t i) (value_kept runs t is cpus i inside)))

    block_same : block_of firsts new i ≡ block_of runs t i
    block_same =
        ap (λ (ns : List ℕ). (bit 1 (is_linked t i) ∷ ns) ++ content_of firsts new i) notes_same
        ∙ ap (λ (bs : List ℕ). marks_of runs t i ++ bs) content_same

  rows_same : all_below (block_of firsts new) (elements t.shape) ≡ all_below (block_of runs t) (elements t.shape)
  rows_same = below_same (block_of firsts new) (block_of runs t) (elements t.shape) block_same

runs_same : (runs : List Runs) → map is_in_run (map first_run runs) ≡ map is_in_run runs
runs_same [] = refl
runs_same (r ∷ rs) = ap (λ (bs : List ℕ). is_in_run r ∷ bs) (runs_same rs)

module _ (p : Contents) (is : IsStore p) where
  map_same : (m : ℕ) → m < length p.tables → map_block (normal p) m ≡ map_block p m
  map_same m l =
      ap (λ (t : Rows). all_below (block_of (map first_run p.runs) t) (elements t.shape)) (normal_row p.runs p.tables m l)
      ∙ rows_same p.runs (rows p m) (is.tables m l).0 (sym (is.tables m l).1)

  pub saved_normal : saved (normal p) ≡ saved p
  saved_normal =
      ap (λ (bs : List ℕ). bs ++ all_below (map_block (normal p)) (length (normal p).tables)) (runs_same p.runs)
      ∙ ap (λ (bs : List ℕ). map is_in_run p.runs ++ bs)
      (ap (λ (n : ℕ). all_below (map_block (normal p)) n) (length-map p.tables (normal_rows p.runs)) ∙ below_same (map_block (normal p))
      (map_block p) (length p.tables) map_same)

pub normal_saved : (p : Contents) (bytes : List ℕ) → IsSavedAs p bytes → IsSavedAs (normal p) bytes
normal_saved p bytes is = (normal_store p is.0, is.1 ∙ sym (saved_normal p is.0))

-- ---- what is read from the first of some bytes
module _ (old new : Contents) (bytes : List ℕ) (only : (k : ℕ) (p : Contents) → IsSavedFirst old bytes k p → new ≡ normal p) where
  pub is_read : (n : ℕ) → n ≤ length bytes → IsSameShape new old → IsSavedAs new (take n bytes) → IsRead old bytes n new
  is_read n inside shape is = record {
    inside = inside;
    saved = record { shape = shape; saved = is };
    only = only;
    ends = λ k p first. first.saved.1 ∙ (sym (saved_normal p first.saved.0) ∙ (ap saved (sym (only k p first)) ∙ sym is.1));
  }

  pub saves_none : ((k : ℕ) → IsSavedAs new (take k bytes) → ⊥) → SavesNone old bytes
  saves_none none k p first = none k (subst (λ (q : Contents). IsSavedAs q (take k bytes)) (sym (only k p first)) (normal_saved p (take k bytes) first.saved))

-- what was read, where something was, and where nothing was
pub read_or_none : (old new : Contents) (bytes : List ℕ) (found : Option ℕ) → IfSome found (λ n. IsRead old bytes n new) → IfNone found (SavesNone old bytes)
    → (k : ℕ) (p : Contents) → IsSavedFirst old bytes k p → new ≡ normal p
read_or_none old kept bytes (Some n) read none k p first = read.only k p first
read_or_none old kept bytes None read none k p first = absurd (none k p first)

-- both are the normal form of either
pub one_reading : (old kept other : Contents) (bytes : List ℕ) (n k : ℕ) → IsRead old bytes n kept → IsRead old bytes k other → (k ≡ n) × (other ≡ kept)
one_reading old kept other bytes n k one two =
    let same = ap (λ (bs : List ℕ). length bs) (one.ends k other two.saved) in
    let first = length-take-le n bytes one.inside in
    let second = length-take-le k bytes two.inside in
    (omega (arith, same, first, second), two.only k other two.saved ∙ sym (one.only k other two.saved))
