-- What an update and a deletion leave of a store, given by its parts and by what became of the one table.
use Rattle.std.proofs.Common.{◌≡◌, ℕ, ◌<◌, true, List, length, get_or, sym, ap, ◌∙◌, subst}
use Rattle.bpf_shared.specs.declared.events.MapAnswer.{MapAnswer}
use Rattle.bpf_shared.specs.declared.events.Event.TheVariants.{Update, Delete}
use Rattle.bpf_hash.specs.declared.runs.Runs.{Runs}
use Rattle.bpf_shared.specs.declared.shapes.MapShape.{MapShape}
use Rattle.bpf_shared.specs.Shape.{IsMap}
use Rattle.bpf_hash.specs.Private.Rows.{Rows, IsTable, PutsRow, TakesRow}
use Rattle.bpf_hash.specs.Private.Contents.{Contents, rows, shapes_of, has_cpu, is_running, held_spans, MayLack, IsStore, with_table, Makes}
use Rattle.bpf_hash.proofs.Changing.{map_there, same_shape, read_row}
use Rattle.bpf_hash.proofs.Settling.{Keeps, puts_calls, puts_keeps, puts_lacks, takes_calls, takes_keeps, keeps_store, keeps_held, keeps_shapes}

-- what the second store has of the first one
pub record Leaves (p q : Contents) : Type 0 where
  pub store : IsStore q
  pub held : held_spans q ≡ held_spans p
  pub shapes : shapes_of q ≡ shapes_of p
  pub serves : has_cpu q ≡ has_cpu p
  pub running : is_running q ≡ is_running p

-- of the store whose parts are these, the table of a map is there
module _ (parts p : Contents) (view : ◌≡◌ {A = Contents} parts p) (ok : IsStore parts) (c m : ℕ) (key : List ℕ) (h : MapShape) (map : IsMap (shapes_of p) m h)
    (runs : List Runs) (runs_are : runs ≡ parts.runs) (old : Rows) (old_is : old ≡ get_or parts.tables m old) (n : Rows) (table : IsTable old → IsTable n) where
  is : IsStore p
  is = subst IsStore view ok

  there : m < length p.tables
  there = map_there p m h map

  row : old ≡ rows p m
  row = read_row p m parts.runs parts.tables old view there old_is

  all : runs ≡ p.runs
  all = runs_are ∙ ap (λ (q : Contents). q.runs) view

  new : ◌≡◌ {A = Contents} (with_table parts m n) (with_table p m n)
  new = ap (λ (q : Contents). with_table q m n) view

  leaves : Keeps p is c m key there n → Leaves p (with_table parts m n)
  leaves kept = record {
    store = subst IsStore (sym new) (keeps_store p is c m key there n kept (table (subst IsTable (sym row) (is.tables m there).0)));
    held = ap held_spans new ∙ keeps_held p is c m key there n kept;
    shapes = ap shapes_of new ∙ keeps_shapes p is c m key there n kept;
    serves = ap has_cpu new;
    running = ap is_running new;
  }

  module _ (answer : MapAnswer) (takes : TakesRow runs old key answer n) where
    taken : TakesRow p.runs (rows p m) key answer n
    taken = subst (λ (r : List Runs). TakesRow r (rows p m) key answer n) all (subst (λ (t : Rows). TakesRow runs t key answer n) row takes)

    pub delete_leaves : Leaves p (with_table parts m n)
    delete_leaves = leaves (takes_keeps p is c m key there answer n taken)

    pub delete_calls : length key ≡ h.key → is_running p c ≡ true → Makes p (with_table parts m n) c (Delete m key answer)
    delete_calls size going =
        subst (λ (q : Contents). Makes p q c (Delete m key answer)) (sym new)
        (takes_calls p is c m key there answer n going (h, map, size) taken)

  module _ (bytes : List ℕ) (flags : ℕ) (answer : MapAnswer) (size : length key ≡ h.key) (long : length bytes ≡ h.value)
      (puts : PutsRow runs old key bytes flags answer n) where
    put : PutsRow p.runs (rows p m) key bytes flags answer n
    put = subst (λ (r : List Runs). PutsRow r (rows p m) key bytes flags answer n) all (subst (λ (t : Rows). PutsRow runs t key bytes flags answer n) row puts)

    key_size : length key ≡ (rows p m).shape.key
    key_size = size ∙ ap (λ (s : MapShape). s.key) (same_shape p m h map)

    value_size : length bytes ≡ (rows p m).shape.value
    value_size = long ∙ ap (λ (s : MapShape). s.value) (same_shape p m h map)

    pub update_leaves : Leaves p (with_table parts m n)
    update_leaves = leaves (puts_keeps p is c m key there bytes flags answer n put)

    pub update_calls : is_running p c ≡ true → Makes p (with_table parts m n) c (Update m key bytes flags answer)
    update_calls going =
        subst (λ (q : Contents). Makes p q c (Update m key bytes flags answer)) (sym new)
        (puts_calls p is c m key there bytes flags key_size value_size answer n going put)

    pub update_lacks : MayLack p (with_table parts m n) m key answer
    update_lacks =
        subst (λ (q : Contents). MayLack p q m key answer) (sym new)
        (puts_lacks p is c m key there bytes flags key_size value_size answer n put)
