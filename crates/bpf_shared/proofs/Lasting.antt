-- What lasts between two events of a history.
use Rattle.std.proofs.Common.{◌≡◌, ◌≢◌, ℕ, ◌+◌, ◌-◌, ◌<◌, ◌≤◌, Bool, true, false, List, [], ◌∷◌, length, slice_index, Option, Some, None}
use Rattle.std.proofs.Common.{◌⊎◌, inl, inr, refl, sym, ap, subst, ◌∙◌, arith}
use Rattle.std.proofs.lemmas.Bool.{cases_lt}
use Rattle.std.specs.FinMap.{get, insert, remove}
use Rattle.bpf_shared.specs.declared.events.Span.{Span}
use Rattle.bpf_shared.specs.declared.events.Event.{Event}
use Rattle.bpf_shared.specs.declared.events.Event.TheVariants.{Begin, End, Lookup, Update, Delete, Keys, Load, Store, Atomic}
use Rattle.bpf_shared.specs.declared.events.MapAnswer.{MapAnswer}
use Rattle.bpf_shared.specs.declared.events.MapAnswer.TheVariants.{Done, Invalid, Busy, Exists, Absent, Full, NoMemory}
use Rattle.bpf_shared.specs.declared.events.Entry.{Entry}
use Rattle.bpf_shared.specs.Shape.{Shape, IsIn, IsApart}
use Rattle.bpf_shared.specs.Access.{bytes_in}
use Rattle.bpf_shared.specs.Store.{KeyMap, Value, Plain, put, never, IsFrozen, fixed_value}
use Rattle.bpf_shared.specs.Events.{after_lookup, after_write, span_of, Reaches, Allowed}
use Rattle.bpf_shared.specs.History.{Legal}
use Rattle.bpf_shared.specs.Sound.{IsSoundStore}
use Rattle.bpf_shared.specs.Laws.{byte_at, MakesValue}
use Rattle.bpf_shared.specs.Lasting.{ChangesKey, WritesAt, EndsRun, Without, UpdatesAreFound, DeletionsAreFound, HeldValuesStay, FixedValuesStay}
use Rattle.bpf_shared.proofs.Puts.{true_or_false, equal_or_not, put-same, put-other, put_cases, put_pair-old, insert_cases, remove_cases, gone_key}
use Rattle.bpf_shared.proofs.Soundness.{allowed_sound, legal_sound}
use Rattle.bpf_shared.proofs.Fixed.{fixed_below}
use Rattle.bpf_shared.proofs.Leaving.{history_shape}
use Rattle.bpf_shared.proofs.Lawful.{refusals_change_nothing, updates_make_values, values_stay, writes_touch_named_bytes}

-- ---- what a key leads to
module _ (s t : Plain) (c m : ℕ) (key : List ℕ) where
  abbrev led : Plain → Option ℕ
  led z = get (z.maps m) key

  looked_keys : (o : Option ℕ) → led (after_lookup s c o) ≡ led s
  looked_keys None = refl
  looked_keys (Some v) = refl

  -- another key of a map is put or taken
  others_keys : (n : ℕ) (other : List ℕ) (k : KeyMap) → ((n ≡ m) × (other ≡ key) → ⊥) → ((key ≡ other) ⊎ (get k key ≡ get (s.maps n) key)) →
      get (put s.maps n k m) key ≡ led s
  others_keys n other k without cases = elim (put_cases s.maps n m k) [
    | inr e ↦ ap (λ (x : KeyMap). get x key) e.1
    | inl e ↦ elim cases [
      | inl same ↦ absurd (without (sym e.0, sym same))
      | inr same ↦ ap (λ (x : KeyMap). get x key) e.1 ∙ (same ∙ ap (λ (i : ℕ). get (s.maps i) key) (sym e.0))
    ]
  ]

  put_keys : (n : ℕ) (other : List ℕ) → ((n ≡ m) × (other ≡ key) → ⊥) → get (put s.maps n (insert (s.maps n) other s.made) m) key ≡ led s
  put_keys n other without = others_keys n other (insert (s.maps n) other s.made) without
      (elim (insert_cases (s.maps n) other s.made key) [ inl k ↦ inl k.0 | inr k ↦ inr k ])

  taken_keys : (n : ℕ) (other : List ℕ) → ((n ≡ m) × (other ≡ key) → ⊥) → get (put s.maps n (remove (s.maps n) other) m) key ≡ led s
  taken_keys n other without = others_keys n other (remove (s.maps n) other) without
      (elim (remove_cases (s.maps n) other key) [ inl k ↦ inl k.0 | inr k ↦ inr k ])

  update_keys : (n : ℕ) (other bytes : List ℕ) (flags : ℕ) (answer : MapAnswer) → Allowed s c (Update n other bytes flags answer) t →
      (ChangesKey m key c (Update n other bytes flags answer) → ⊥) → led t ≡ led s
  update_keys n other bytes flags Done a without = ap led a.1.4.1.2 ∙ put_keys n other without
  update_keys n other bytes flags Invalid a without = ap led (refusals_change_nothing.0 s t c n other bytes flags Invalid (λ e. cc) a)
  update_keys n other bytes flags Busy a without = ap led (refusals_change_nothing.0 s t c n other bytes flags Busy (λ e. cc) a)
  update_keys n other bytes flags Exists a without = ap led (refusals_change_nothing.0 s t c n other bytes flags Exists (λ e. cc) a)
  update_keys n other bytes flags Absent a without = ap led (refusals_change_nothing.0 s t c n other bytes flags Absent (λ e. cc) a)
  update_keys n other bytes flags Full a without = ap led (refusals_change_nothing.0 s t c n other bytes flags Full (λ e. cc) a)
  update_keys n other bytes flags NoMemory a without = ap led (refusals_change_nothing.0 s t c n other bytes flags NoMemory (λ e. cc) a)

  delete_keys : (n : ℕ) (other : List ℕ) (answer : MapAnswer) → Allowed s c (Delete n other answer) t →
      (ChangesKey m key c (Delete n other answer) → ⊥) → led t ≡ led s
  delete_keys n other Done a without = ap led a.1.1.1 ∙ taken_keys n other without
  delete_keys n other Invalid a without = ap led (refusals_change_nothing.1 s t c n other Invalid (λ e. cc) a)
  delete_keys n other Busy a without = ap led (refusals_change_nothing.1 s t c n other Busy (λ e. cc) a)
  delete_keys n other Exists a without = ap led (refusals_change_nothing.1 s t c n other Exists (λ e. cc) a)
  delete_keys n other Absent a without = ap led (refusals_change_nothing.1 s t c n other Absent (λ e. cc) a)
  delete_keys n other Full a without = ap led (refusals_change_nothing.1 s t c n other Full (λ e. cc) a)
  delete_keys n other NoMemory a without = ap led (refusals_change_nothing.1 s t c n other NoMemory (λ e. cc) a)

  event_keys : (e : Event) → Allowed s c e t → (ChangesKey m key c e → ⊥) → led t ≡ led s
  event_keys Begin a without = ap led a.2
  event_keys End a without = ap led a.1
  event_keys (Lookup n other answer) a without = ap led a.1.2 ∙ looked_keys (get (s.maps n) other)
  event_keys (Update n other bytes flags answer) a without = update_keys n other bytes flags answer a without
  event_keys (Delete n other answer) a without = delete_keys n other answer a without
  event_keys (Keys n ks) a without = ap led a.3
  event_keys (Load at size found) a without = ap led a.1.3
  event_keys (Store at size word) a without = ap led a.1.2
  event_keys (Atomic at size op operand expected found) a without = ap led a.1.3

keys_last : (s t : Plain) (m : ℕ) (key : List ℕ) (log : List Entry) → Legal s log t → Without (ChangesKey m key) log → get (t.maps m) key ≡ get (s.maps m) key
keys_last s t m key [] h without = ap (λ (z : Plain). get (z.maps m) key) (sym h)
keys_last s t m key (e ∷ es) h without = keys_last h.0 t m key es h.2 without.1 ∙ event_keys s h.0 e.cpu m key e.event h.1 without.0

-- ---- a byte of a value
module _ (s t : Plain) (c v b : ℕ) (so : IsSoundStore s) (there : v < s.made) (inside : IsIn b (s.value v).span) where
  abbrev byte_in : Plain → ℕ
  byte_in z = byte_at z v b

  looked_byte : (o : Option ℕ) → byte_in (after_lookup s c o) ≡ byte_in s
  looked_byte None = refl
  looked_byte (Some w) = refl

  written_byte : (w a n x : ℕ) → Reaches s c w a n → ((a ≤ b) × (b < a + n) → ⊥) → byte_in (after_write s w a n x) ≡ byte_in s
  written_byte w a n x r without =
      let law = writes_touch_named_bytes s c w a n x so r in
      elim (equal_or_not v w) [
        | inr ne ↦ ap (λ (y : Value). slice_index y.bytes (b - y.span.at)) (law.0 v ne)
        | inl e ↦
            let beside : (b < a) ⊎ (a + n ≤ b) = elim (cases_lt b a) [
              | inl k ↦ inl k
              | inr k ↦ elim (cases_lt b (a + n)) [ inl l ↦ absurd (without (k, l)) | inr l ↦ inr l ]
            ] in
            ap (λ (i : ℕ). byte_at (after_write s w a n x) i b) e ∙
            (law.1 b (subst (λ (i : ℕ). IsIn b (s.value i).span) e inside) beside ∙ ap (λ (i : ℕ). byte_at s i b) (sym e))
      ]

  updated_byte : (m : ℕ) (key bytes : List ℕ) (flags : ℕ) (answer : MapAnswer) → Allowed s c (Update m key bytes flags answer) t → byte_in t ≡ byte_in s
  updated_byte m key bytes flags Done a = ap (λ (y : Value). slice_index y.bytes (b - y.span.at)) ((updates_make_values s t c m key bytes flags a).old v there)
  updated_byte m key bytes flags Invalid a = ap byte_in (refusals_change_nothing.0 s t c m key bytes flags Invalid (λ e. cc) a)
  updated_byte m key bytes flags Busy a = ap byte_in (refusals_change_nothing.0 s t c m key bytes flags Busy (λ e. cc) a)
  updated_byte m key bytes flags Exists a = ap byte_in (refusals_change_nothing.0 s t c m key bytes flags Exists (λ e. cc) a)
  updated_byte m key bytes flags Absent a = ap byte_in (refusals_change_nothing.0 s t c m key bytes flags Absent (λ e. cc) a)
  updated_byte m key bytes flags Full a = ap byte_in (refusals_change_nothing.0 s t c m key bytes flags Full (λ e. cc) a)
  updated_byte m key bytes flags NoMemory a = ap byte_in (refusals_change_nothing.0 s t c m key bytes flags NoMemory (λ e. cc) a)

  deleted_byte : (m : ℕ) (key : List ℕ) (answer : MapAnswer) → Allowed s c (Delete m key answer) t → byte_in t ≡ byte_in s
  deleted_byte m key Done a = ap byte_in a.1.1.1
  deleted_byte m key Invalid a = ap byte_in (refusals_change_nothing.1 s t c m key Invalid (λ e. cc) a)
  deleted_byte m key Busy a = ap byte_in (refusals_change_nothing.1 s t c m key Busy (λ e. cc) a)
  deleted_byte m key Exists a = ap byte_in (refusals_change_nothing.1 s t c m key Exists (λ e. cc) a)
  deleted_byte m key Absent a = ap byte_in (refusals_change_nothing.1 s t c m key Absent (λ e. cc) a)
  deleted_byte m key Full a = ap byte_in (refusals_change_nothing.1 s t c m key Full (λ e. cc) a)
  deleted_byte m key NoMemory a = ap byte_in (refusals_change_nothing.1 s t c m key NoMemory (λ e. cc) a)

  event_byte : (e : Event) → Allowed s c e t → (WritesAt b c e → ⊥) → byte_in t ≡ byte_in s
  event_byte Begin a without = ap byte_in a.2
  event_byte End a without = ap byte_in a.1
  event_byte (Lookup m key answer) a without = ap byte_in a.1.2 ∙ looked_byte (get (s.maps m) key)
  event_byte (Update m key bytes flags answer) a without = updated_byte m key bytes flags answer a
  event_byte (Delete m key answer) a without = deleted_byte m key answer a
  event_byte (Keys m ks) a without = ap byte_in a.3
  event_byte (Load at size found) a without = ap byte_in a.1.3
  event_byte (Store at size word) a without = ap byte_in a.1.2 ∙ written_byte a.1.0 at (bytes_in size) word a.1.1.reaches without
  event_byte (Atomic at size op operand expected found) a without = ap byte_in a.1.3 ∙ written_byte a.1.0 at (bytes_in size) _ a.1.1.reaches without

bytes_last : (s t : Plain) (v b : ℕ) (log : List Entry) → IsSoundStore s → v < s.made → IsIn b (s.value v).span → Legal s log t → Without
    (WritesAt b) log → byte_at t v b ≡ byte_at s v b
bytes_last s t v b [] so there inside h without = ap (λ (z : Plain). byte_at z v b) (sym h)
bytes_last s t v b (e ∷ es) so there inside h without =
    let stays = values_stay s h.0 (e ∷ []) v (h.0, h.1, refl) there in
    bytes_last h.0 t v b es (allowed_sound s h.0 e.cpu e.event so h.1) stays.0 (subst (IsIn b) (sym stays.1) inside) h.2 without.1
    ∙ event_byte s h.0 e.cpu v b so there inside e.event h.1 without.0

pub updates_are_found : UpdatesAreFound
updates_are_found s t u w c d m key bytes flags log found so a h without l =
    let v = s.made in
    let makes : MakesValue s m key bytes t = updates_make_values s t c m key bytes flags a in
    let sound : IsSoundStore t = allowed_sound s t c (Update m key bytes flags Done) so a in
    let there : v < t.made = (let n = makes.next in omega arith) in
    let stays = values_stay t u log v h there in
    let leads : get (u.maps m) key ≡ Some v = keys_last t u m key log h without ∙ makes.leads in
    record {
      span = l.1.1 ∙ ap (span_of u) leads;
      size = ap (λ (p : Span). p.size) stays.1 ∙ (sym (sound.sizes v there) ∙ ap (λ (bs : List ℕ). length bs) makes.bytes_new);
      bytes_there = λ b inside none.
          bytes_last t u v b log sound there (subst (IsIn b) stays.1 inside) h none
          ∙ (ap (λ (bs : List ℕ). slice_index bs (b - (t.value v).span.at)) makes.bytes_new ∙ ap (λ (p : Span). slice_index bytes (b - p.at)) (sym stays.1));
    }

pub deletions_are_found : DeletionsAreFound
deletions_are_found s t u w c d m key log found a h without l =
    let gone : get (t.maps m) key ≡ None = ap (λ (z : Plain). get (z.maps m) key) a.1.1.1 ∙
    (ap (λ (k : KeyMap). get k key) (put-same s.maps m m (remove (s.maps m) key) refl) ∙ gone_key (s.maps m) key) in
    l.1.1 ∙ ap (span_of u) (keys_last t u m key log h without ∙ gone)

-- ---- held values
module _ (s t : Plain) (c v : ℕ) (going : s.running c ≡ true) (holds : s.held c v ≡ true) where
  abbrev Holds : Plain → Type 0
  Holds z = (z.running c ≡ true) × (z.held c v ≡ true)

  -- the store is another one that says the same of runs and of what they hold
  same_held : (z : Plain) → t ≡ z → z.running ≡ s.running → z.held ≡ s.held → Holds t
  same_held z e r h = subst Holds (sym e) (ap (λ (f : ℕ → Bool). f c) r ∙ going, ap (λ (f : ℕ → ℕ → Bool). f c v) h ∙ holds)

  begun_held : (d : ℕ) → Allowed s d Begin t → Holds t
  begun_held d a =
      let apart : c ≢ d = λ (e : c ≡ d). (let clash : true ≡ false = sym going ∙ (ap s.running e ∙ a.1) in cc) in
      subst Holds (sym a.2) (put-other s.running d c true apart ∙ going, ap (λ (f : ℕ → Bool). f v) (put-other s.held d c never apart) ∙ holds)

  ended_held : (d : ℕ) → Allowed s d End t → (EndsRun c d End → ⊥) → Holds t
  ended_held d a without =
      let apart : c ≢ d = λ (e : c ≡ d). without (sym e, refl) in
      subst Holds (sym a.1) (put-other s.running d c false apart ∙ going, ap (λ (f : ℕ → Bool). f v) (put-other s.held d c never apart) ∙ holds)

  looked_held : (d : ℕ) (o : Option ℕ) → Holds (after_lookup s d o)
  looked_held d None = (going, holds)
  looked_held d (Some w) = (going, put_pair-old s.held d w c v holds)

  refused_held : t ≡ s → Holds t
  refused_held e = same_held s e refl refl

  updated_held : (d m : ℕ) (key bytes : List ℕ) (flags : ℕ) (answer : MapAnswer) → Allowed s d (Update m key bytes flags answer) t → Holds t
  updated_held d m key bytes flags Done a = subst Holds (sym a.1.4.1.2) (going, holds)
  updated_held d m key bytes flags Invalid a = refused_held (refusals_change_nothing.0 s t d m key bytes flags Invalid (λ e. cc) a)
  updated_held d m key bytes flags Busy a = refused_held (refusals_change_nothing.0 s t d m key bytes flags Busy (λ e. cc) a)
  updated_held d m key bytes flags Exists a = refused_held (refusals_change_nothing.0 s t d m key bytes flags Exists (λ e. cc) a)
  updated_held d m key bytes flags Absent a = refused_held (refusals_change_nothing.0 s t d m key bytes flags Absent (λ e. cc) a)
  updated_held d m key bytes flags Full a = refused_held (refusals_change_nothing.0 s t d m key bytes flags Full (λ e. cc) a)
  updated_held d m key bytes flags NoMemory a = refused_held (refusals_change_nothing.0 s t d m key bytes flags NoMemory (λ e. cc) a)

  deleted_held : (d m : ℕ) (key : List ℕ) (answer : MapAnswer) → Allowed s d (Delete m key answer) t → Holds t
  deleted_held d m key Done a = subst Holds (sym a.1.1.1) (going, holds)
  deleted_held d m key Invalid a = refused_held (refusals_change_nothing.1 s t d m key Invalid (λ e. cc) a)
  deleted_held d m key Busy a = refused_held (refusals_change_nothing.1 s t d m key Busy (λ e. cc) a)
  deleted_held d m key Exists a = refused_held (refusals_change_nothing.1 s t d m key Exists (λ e. cc) a)
  deleted_held d m key Absent a = refused_held (refusals_change_nothing.1 s t d m key Absent (λ e. cc) a)
  deleted_held d m key Full a = refused_held (refusals_change_nothing.1 s t d m key Full (λ e. cc) a)
  deleted_held d m key NoMemory a = refused_held (refusals_change_nothing.1 s t d m key NoMemory (λ e. cc) a)

  event_held : (d : ℕ) (e : Event) → Allowed s d e t → (EndsRun c d e → ⊥) → Holds t
  event_held d Begin a without = begun_held d a
  event_held d End a without = ended_held d a without
  event_held d (Lookup m key answer) a without = subst Holds (sym a.1.2) (looked_held d (get (s.maps m) key))
  event_held d (Update m key bytes flags answer) a without = updated_held d m key bytes flags answer a
  event_held d (Delete m key answer) a without = deleted_held d m key answer a
  event_held d (Keys m ks) a without = refused_held a.3
  event_held d (Load at size found) a without = refused_held a.1.3
  event_held d (Store at size word) a without = subst Holds (sym a.1.2) (going, holds)
  event_held d (Atomic at size op operand expected found) a without = subst Holds (sym a.1.3) (going, holds)

  -- ---- a new value lies apart from what is held
  abbrev Apart : ℕ → Type 0
  Apart w = IsApart (t.value w).span (s.value v).span

  none_new : (w : ℕ) → t.made ≡ s.made → s.made ≤ w → w < t.made → Apart w
  none_new w e l k = absurd (omega (arith, e))

  looked_made : (d : ℕ) (o : Option ℕ) → (after_lookup s d o).made ≡ s.made
  looked_made d None = refl
  looked_made d (Some w) = refl

  updated_apart : (d m : ℕ) (key bytes : List ℕ) (flags : ℕ) (answer : MapAnswer) (w : ℕ) → Allowed s d (Update m key bytes flags answer) t
      → s.made ≤ w → w < t.made → Apart w
  updated_apart d m key bytes flags Done w a l k =
      let next : t.made ≡ s.made + 1 = ap (λ (z : Plain). z.made) a.1.4.1.2 in
      let here : w ≡ s.made = omega arith in
      let placed : (t.value w).span ≡ a.1.4.1.0 = ap (λ (z : Plain). (z.value w).span) a.1.4.1.2 ∙ ap (λ (x : Value). x.span)
      (put-same s.value s.made w (record { bytes = bytes; span = a.1.4.1.0 }) here) in
      subst (λ (p : Span). IsApart p (s.value v).span) (sym placed) (a.1.4.1.1.apart v (inr (inl (c, holds))))
  updated_apart d m key bytes flags Invalid w a l k = none_new w
      (ap (λ (z : Plain). z.made) (refusals_change_nothing.0 s t d m key bytes flags Invalid (λ e. cc) a)) l k
  updated_apart d m key bytes flags Busy w a l k = none_new w (ap (λ (z : Plain). z.made)
      (refusals_change_nothing.0 s t d m key bytes flags Busy (λ e. cc) a)) l k
  updated_apart d m key bytes flags Exists w a l k = none_new w (ap (λ (z : Plain). z.made)
      (refusals_change_nothing.0 s t d m key bytes flags Exists (λ e. cc) a)) l k
  updated_apart d m key bytes flags Absent w a l k = none_new w (ap (λ (z : Plain). z.made)
      (refusals_change_nothing.0 s t d m key bytes flags Absent (λ e. cc) a)) l k
  updated_apart d m key bytes flags Full w a l k = none_new w (ap (λ (z : Plain). z.made)
      (refusals_change_nothing.0 s t d m key bytes flags Full (λ e. cc) a)) l k
  updated_apart d m key bytes flags NoMemory w a l k = none_new w
      (ap (λ (z : Plain). z.made) (refusals_change_nothing.0 s t d m key bytes flags NoMemory (λ e. cc) a)) l k

  deleted_made : (d m : ℕ) (key : List ℕ) (answer : MapAnswer) → Allowed s d (Delete m key answer) t → t.made ≡ s.made
  deleted_made d m key Done a = ap (λ (z : Plain). z.made) a.1.1.1
  deleted_made d m key Invalid a = ap (λ (z : Plain). z.made) (refusals_change_nothing.1 s t d m key Invalid (λ e. cc) a)
  deleted_made d m key Busy a = ap (λ (z : Plain). z.made) (refusals_change_nothing.1 s t d m key Busy (λ e. cc) a)
  deleted_made d m key Exists a = ap (λ (z : Plain). z.made) (refusals_change_nothing.1 s t d m key Exists (λ e. cc) a)
  deleted_made d m key Absent a = ap (λ (z : Plain). z.made) (refusals_change_nothing.1 s t d m key Absent (λ e. cc) a)
  deleted_made d m key Full a = ap (λ (z : Plain). z.made) (refusals_change_nothing.1 s t d m key Full (λ e. cc) a)
  deleted_made d m key NoMemory a = ap (λ (z : Plain). z.made) (refusals_change_nothing.1 s t d m key NoMemory (λ e. cc) a)

  event_apart : (d : ℕ) (e : Event) (w : ℕ) → Allowed s d e t → s.made ≤ w → w < t.made → Apart w
  event_apart d Begin w a l k = none_new w (ap (λ (z : Plain). z.made) a.2) l k
  event_apart d End w a l k = none_new w (ap (λ (z : Plain). z.made) a.1) l k
  event_apart d (Lookup m key answer) w a l k = none_new w (ap (λ (z : Plain). z.made) a.1.2 ∙ looked_made d (get (s.maps m) key)) l k
  event_apart d (Update m key bytes flags answer) w a l k = updated_apart d m key bytes flags answer w a l k
  event_apart d (Delete m key answer) w a l k = none_new w (deleted_made d m key answer a) l k
  event_apart d (Keys m ks) w a l k = none_new w (ap (λ (z : Plain). z.made) a.3) l k
  event_apart d (Load at size found) w a l k = none_new w (ap (λ (z : Plain). z.made) a.1.3) l k
  event_apart d (Store at size word) w a l k = none_new w (ap (λ (z : Plain). z.made) a.1.2) l k
  event_apart d (Atomic at size op operand expected found) w a l k = none_new w (ap (λ (z : Plain). z.made) a.1.3) l k

held_stay : (s t : Plain) (c v : ℕ) (log : List Entry) → IsSoundStore s → s.running c ≡ true → s.held c v ≡ true → Legal s log t → Without (EndsRun c) log
    → (t.held c v ≡ true) × ((t.value v).span ≡ (s.value v).span) × ((w : ℕ) → s.made ≤ w → w < t.made → IsApart (t.value w).span (t.value v).span)
held_stay s t c v [] so going holds h without = (
  ap (λ (z : Plain). z.held c v) (sym h) ∙ holds,
  ap (λ (z : Plain). (z.value v).span) (sym h),
  λ w l k. absurd (let e = ap (λ (z : Plain). z.made) h in omega (arith, e)),
)
held_stay s t c v (e ∷ es) so going holds h without =
    let x = h.0 in
    let there : v < s.made = so.live_made v (inr (inl (c, holds))) in
    let kept = event_held s x c v going holds e.cpu e.event h.1 without.0 in
    let first = values_stay s x (e ∷ []) v (x, h.1, refl) there in
    let rest = held_stay x t c v es (allowed_sound s x e.cpu e.event so h.1) kept.0 kept.1 h.2 without.1 in (
      rest.0,
      rest.1 ∙ first.1,
      λ w l k. elim (cases_lt w x.made) [
        | inr later ↦ rest.2 w later k
        | inl now ↦
            let apart : IsApart (x.value w).span (s.value v).span = event_apart s x c v going holds e.cpu e.event w h.1 l now in
            let stays = values_stay x t es w h.2 now in
            subst (λ (p : Span). IsApart p (t.value v).span) (sym stays.1) (subst (IsApart (x.value w).span) (sym (rest.1 ∙ first.1)) apart)
      ],
    )

pub held_values_stay : HeldValuesStay
held_values_stay s t c v log so holds h without =
    let going : s.running c ≡ true = elim (true_or_false (s.running c)) [
      | inl true_now ↦ true_now
      | inr none ↦ absurd (let clash : true ≡ false = sym holds ∙ (so.idle c none v).0 in cc)
    ] in
    held_stay s t c v log so going holds h without

-- ---- fixed values
pub fixed_values_stay : FixedValuesStay
fixed_values_stay s t v log so l f =
    let there : v < s.made = (let below = fixed_below s.shape v f in let made = so.fixed.made in omega arith) in
    let sound : IsSoundStore t = legal_sound s t log so l in
    let shape : t.shape ≡ s.shape = history_shape Allowed (λ x y c e a. a) s t log l in
    record {
      span = (values_stay s t log v l there).1 ∙ so.fixed.spans v f;
      bytes_there = λ b inside without. bytes_last s t v b log so there inside l without;
      frozen = λ z. sound.fixed.frozen v (subst (λ (h : Shape). IsFrozen h v) (sym shape) z) ∙ ap (λ (h : Shape). fixed_value h v) shape;
    }
