-- What an access to a held value reads and leaves, given by the store's parts and by what became of the one table.
use Rattle.std.proofs.Common.{◌≡◌, ℕ, ◌+◌, ◌<◌, ◌≤◌, true, length, get_or, refl, sym, ap, ◌∙◌, subst}
use Rattle.bpf_base.specs.Bytes.{little_endian, low_bytes, part}
use Rattle.bpf_base.specs.Atomic.{number_after}
use Rattle.bpf_base.specs.declared.atomic.Change.{Change}
use Rattle.bpf_shared.specs.declared.events.Size.{Size}
use Rattle.bpf_shared.specs.declared.events.Event.TheVariants.{Load, Store, Atomic}
use Rattle.bpf_shared.specs.Access.{bytes_in}
use Rattle.bpf_shared.specs.Passage.{IsHeldPlace}
use Rattle.bpf_hash.specs.Private.Rows.{Rows, bytes_of, IsTable, stored_row}
use Rattle.bpf_hash.specs.Private.Contents.{Contents, rows, element_count, span_at, shapes_of, has_cpu, is_running, held_spans, IsStore, with_table, Makes}
use Rattle.bpf_hash.proofs.Places.{sized_map}
use Rattle.bpf_hash.proofs.Changing.{read_row, store-with}
use Rattle.bpf_hash.proofs.Accessing.{fits, load_calls, store_calls, atomic_calls, store_held, store_shapes}
use Rattle.bpf_hash.proofs.Answering.{Leaves}

-- of the store whose parts are these, the code found the element i of the map m, in whose value the place lies from o on
module _ (parts p : Contents) (view : ◌≡◌ {A = Contents} parts p) (ok : IsStore parts) (c a : ℕ) (size : Size)
    (place : IsHeldPlace (held_spans p c) a (bytes_in size))
    (m i o : ℕ) (l : i < element_count p m) (at : a ≡ (span_at p m i).at + o) (inside : o < (span_at p m i).size) (old : Rows)
    (old_is : old ≡ get_or parts.tables m old) where
  is : IsStore p
  is = subst IsStore view ok

  there : m < length p.tables
  there = sized_map p m i l

  row : old ≡ rows p m
  row = read_row p m parts.runs parts.tables old view there old_is

  pub fits_there : o + bytes_in size ≤ old.shape.value
  fits_there = subst (λ (t : Rows). o + bytes_in size ≤ t.shape.value) (sym row) (fits p is c a size place m i o l at inside)

  module _ (found : ℕ) (is_found : found ≡ little_endian (part (bytes_of old i) o (bytes_in size))) where
    read : found ≡ little_endian (part (bytes_of (rows p m) i) o (bytes_in size))
    read = is_found ∙ ap (λ (t : Rows). little_endian (part (bytes_of t i) o (bytes_in size))) row

    pub loaded_calls : is_running p c ≡ true → Makes p p c (Load a size found)
    loaded_calls going = subst (λ (x : ℕ). Makes p p c (Load a size x)) (sym read) (load_calls p is c a size place m i o l at inside going)

  -- the table is new, with a word in that place
  module _ (word : ℕ) (n : Rows) (table : IsTable n) (written : n ≡ stored_row i o (low_bytes (bytes_in size) word) old) where
    stored : n ≡ stored_row i o (low_bytes (bytes_in size) word) (rows p m)
    stored = written ∙ ap (stored_row i o (low_bytes (bytes_in size) word)) row

    new : ◌≡◌ {A = Contents} (with_table parts m n) (with_table p m (stored_row i o (low_bytes (bytes_in size) word) (rows p m)))
    new = ap (λ (q : Contents). with_table q m n) view ∙ ap (with_table p m) stored

    pub write_leaves : Leaves p (with_table parts m n)
    write_leaves = record {
      store = subst IsStore (sym new) (store-with p m _ there is (subst IsTable stored table) refl (λ j d k. is.looked_up m j d k) (λ j d k. is.left m j d k));
      held = ap held_spans new ∙ store_held p is c a size place m i o l at inside word;
      shapes = ap shapes_of new ∙ store_shapes p is c a size place m i o l at inside word;
      serves = ap has_cpu new;
      running = ap is_running new;
    }

    pub stored_calls : is_running p c ≡ true → Makes p (with_table parts m n) c (Store a size word)
    stored_calls going = subst (λ (q : Contents). Makes p q c (Store a size word)) (sym new) (store_calls p is c a size place m i o l at inside word going)

    pub changed_calls : (op : Change) (operand expected found : ℕ) → found ≡ little_endian (part (bytes_of old i) o (bytes_in size)) → word
        ≡ number_after op (bytes_in size) found operand expected → is_running p c ≡ true
        → Makes p (with_table parts m n) c (Atomic a size op operand expected found)
    changed_calls op operand expected found is_found is_word going = subst (λ (q : Contents). Makes p q c (Atomic a size op operand expected found)) (sym new)
        (atomic_calls p is c a size place m i o l at inside op operand expected found word (read found is_found) is_word going)
