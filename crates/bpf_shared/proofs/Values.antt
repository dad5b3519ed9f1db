-- What events leave of a value into which they don't write.
use Rattle.std.proofs.Common.{◌≡◌, ℕ, ◌<◌, List, Option, Some, None, refl, ap, sym, subst, ◌∙◌}
use Rattle.std.specs.FinMap.{get}
use Rattle.bpf_shared.specs.declared.events.Event.{Event}
use Rattle.bpf_shared.specs.declared.events.Event.TheVariants.{Begin, End, Lookup, Update, Delete, Keys, Load, Store, Atomic}
use Rattle.bpf_shared.specs.declared.events.MapAnswer.{MapAnswer}
use Rattle.bpf_shared.specs.declared.events.MapAnswer.TheVariants.{Done, Invalid, Busy, Exists, Absent, Full, NoMemory}
use Rattle.bpf_shared.specs.Access.{bytes_in}
use Rattle.bpf_shared.specs.Store.{Plain}
use Rattle.bpf_shared.specs.Events.{Allowed, Reaches, after_lookup, after_write}
use Rattle.bpf_shared.proofs.Puts.{put-other}
use Rattle.bpf_shared.proofs.Lawful.{refusals_change_nothing, updates_make_values}

-- the event of the CPU writes into the value
abbrev pub WritesInto : Plain → ℕ → ℕ → Event → Type 0
WritesInto s c v (Store a size word) = Reaches s c v a (bytes_in size)
WritesInto s c v (Atomic a size op operand expected found) = Reaches s c v a (bytes_in size)
WritesInto s c v e = ⊥

module _ (s t : Plain) (c v : ℕ) (there : v < s.made) where
  same_value : t ≡ s → t.value v ≡ s.value v
  same_value e = ap (λ (z : Plain). z.value v) e

  looked_value : (o : Option ℕ) → (after_lookup s c o).value v ≡ s.value v
  looked_value None = refl
  looked_value (Some w) = refl

  written_value : (w a n x : ℕ) → Reaches s c w a n → (Reaches s c v a n → ⊥) → (after_write s w a n x).value v ≡ s.value v
  written_value w a n x r without = put-other s.value w v _ (λ e. without (subst (λ (k : ℕ). Reaches s c k a n) (sym e) r))

  updated_value : (m : ℕ) (key bytes : List ℕ) (flags : ℕ) (answer : MapAnswer) → Allowed s c (Update m key bytes flags answer) t → t.value v ≡ s.value v
  updated_value m key bytes flags Done a = (updates_make_values s t c m key bytes flags a).old v there
  updated_value m key bytes flags Invalid a = same_value (refusals_change_nothing.0 s t c m key bytes flags Invalid (λ e. cc) a)
  updated_value m key bytes flags Busy a = same_value (refusals_change_nothing.0 s t c m key bytes flags Busy (λ e. cc) a)
  updated_value m key bytes flags Exists a = same_value (refusals_change_nothing.0 s t c m key bytes flags Exists (λ e. cc) a)
  updated_value m key bytes flags Absent a = same_value (refusals_change_nothing.0 s t c m key bytes flags Absent (λ e. cc) a)
  updated_value m key bytes flags Full a = same_value (refusals_change_nothing.0 s t c m key bytes flags Full (λ e. cc) a)
  updated_value m key bytes flags NoMemory a = same_value (refusals_change_nothing.0 s t c m key bytes flags NoMemory (λ e. cc) a)

  deleted_value : (m : ℕ) (key : List ℕ) (answer : MapAnswer) → Allowed s c (Delete m key answer) t → t.value v ≡ s.value v
  deleted_value m key Done a = ap (λ (z : Plain). z.value v) a.1.1.1
  deleted_value m key Invalid a = same_value (refusals_change_nothing.1 s t c m key Invalid (λ e. cc) a)
  deleted_value m key Busy a = same_value (refusals_change_nothing.1 s t c m key Busy (λ e. cc) a)
  deleted_value m key Exists a = same_value (refusals_change_nothing.1 s t c m key Exists (λ e. cc) a)
  deleted_value m key Absent a = same_value (refusals_change_nothing.1 s t c m key Absent (λ e. cc) a)
  deleted_value m key Full a = same_value (refusals_change_nothing.1 s t c m key Full (λ e. cc) a)
  deleted_value m key NoMemory a = same_value (refusals_change_nothing.1 s t c m key NoMemory (λ e. cc) a)

  pub value_left : (e : Event) → Allowed s c e t → (WritesInto s c v e → ⊥) → t.value v ≡ s.value v
  value_left Begin a without = ap (λ (z : Plain). z.value v) a.2
  value_left End a without = ap (λ (z : Plain). z.value v) a.1
  value_left (Lookup m key answer) a without = ap (λ (z : Plain). z.value v) a.1.2 ∙ looked_value (get (s.maps m) key)
  value_left (Update m key bytes flags answer) a without = updated_value m key bytes flags answer a
  value_left (Delete m key answer) a without = deleted_value m key answer a
  value_left (Keys m ks) a without = same_value a.3
  value_left (Load at size found) a without = same_value a.1.3
  value_left (Store at size word) a without = ap (λ (z : Plain). z.value v) a.1.2 ∙ written_value a.1.0 at (bytes_in size) word a.1.1.reaches without
  value_left (Atomic at size op operand expected found) a without = ap (λ (z : Plain). z.value v) a.1.3 ∙ written_value a.1.0 at
      (bytes_in size) _ a.1.1.reaches without
