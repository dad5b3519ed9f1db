-- Proofs of the laws.
use Rattle.std.proofs.Common.{◌≡◌, ◌≢◌, ℕ, ◌+◌, ◌-◌, ◌<◌, ◌≤◌, Bool, true, cond, List, [], ◌∷◌, ◌++◌, length, take, drop, length-append}
use Rattle.std.proofs.Common.{get_or, slice_index, Option, Some, None, ◌⊎◌, inl, inr, refl, sym, ap, subst, ◌∙◌, arith}
use Rattle.std.proofs.lemmas.Bool.{cases_order}
use Rattle.std.proofs.lemmas.Cmp.{nat_list_cmp_total}
use Rattle.std.proofs.Math.ListN.{get_or-append}
use Rattle.std.proofs.lemmas.List.{get_or-append_right, get_or-take, get_or-drop, length-take-le}
use Rattle.std.specs.FinMap.{get, insert, get-insert}
use Rattle.std.specs.Ordering.{nat_cmp, eq_by_cmp, is_eq}
use Rattle.std.specs.Cmp.{tied_itself}
use Rattle.std.specs.Cmp.Lexicographic.{slice_cmp}
use Rattle.bpf_shared.specs.declared.events.Span.{Span}
use Rattle.bpf_base.specs.declared.atomic.Change.{Change}
use Rattle.bpf_shared.specs.declared.events.Size.{Size}
use Rattle.bpf_shared.specs.declared.events.Size.TheVariants.{Byte, Half, Word, Double}
use Rattle.bpf_shared.specs.declared.events.Event.{Event}
use Rattle.bpf_shared.specs.declared.events.Event.TheVariants.{Begin, End, Lookup, Update, Delete, Keys, Load, Store, Atomic}
use Rattle.bpf_shared.specs.declared.events.MapAnswer.{MapAnswer}
use Rattle.bpf_shared.specs.declared.events.MapAnswer.TheVariants.{Done, Invalid, Busy, Exists, Absent, Full, NoMemory}
use Rattle.bpf_shared.specs.declared.shapes.MapShape.{MapShape}
use Rattle.bpf_shared.specs.First.{first_of}
use Rattle.bpf_shared.specs.Shape.{IsMap, element_span}
use Rattle.bpf_base.specs.Bytes.{little_endian, low_bytes, part, with_part}
use Rattle.bpf_base.specs.Atomic.{number_after}
use Rattle.bpf_base.proofs.Numbers.{length-low_bytes}
use Rattle.bpf_base.proofs.Parts.{part-with_part}
use Rattle.bpf_shared.specs.Access.{bytes_in}
use Rattle.bpf_shared.specs.Store.{KeyMap, Value, Plain}
use Rattle.bpf_shared.specs.Events.{after_lookup, refusals, after_update, Updates, Deletes, Reaches, after_write, number_in, Allowed}
use Rattle.bpf_shared.specs.Choice.{IsShort, IsLowestFree, Chosen, PlainlyAllowed}
use Rattle.bpf_shared.specs.Sound.{IsSoundStore}
use Rattle.bpf_shared.proofs.Soundness.{as_made_sound, legal_sound, reached_live, span-after_write}
use Rattle.bpf_shared.proofs.Puts.{equal_or_not, put-same, put-other}
use Rattle.bpf_shared.specs.Laws.{LegalIsSound, ValuesStay, RefusalsChangeNothing, MakesValue, UpdatesMakeValues, OneValueIsReached}
use Rattle.bpf_shared.specs.Laws.{WritesTouchNamedBytes, asked, CallsHaveOneReply}

pub legal_is_sound : LegalIsSound
legal_is_sound h log s is l = legal_sound _ s log (as_made_sound h is) l

-- ---- refusals
refused_update : (s t : Plain) (m : ℕ) (h : MapShape) (key bytes : List ℕ) (flags : ℕ) (answer : MapAnswer) → answer ≢ Done → Updates s m h
    key bytes flags answer t → t ≡ s
refused_update s t m h key bytes flags Done ne u = absurd (ne refl)
refused_update s t m h key bytes flags Invalid ne u = u.1
refused_update s t m h key bytes flags Busy ne u = u.1
refused_update s t m h key bytes flags Exists ne u = u.1
refused_update s t m h key bytes flags Absent ne u = u.1
refused_update s t m h key bytes flags Full ne u = u.1
refused_update s t m h key bytes flags NoMemory ne u = u.1

refused_delete : (s t : Plain) (m : ℕ) (key : List ℕ) (answer : MapAnswer) → answer ≢ Done → Deletes s m key answer t → t ≡ s
refused_delete s t m key Done ne u = absurd (ne refl)
refused_delete s t m key Busy ne u = u
refused_delete s t m key Absent ne u = u.1
refused_delete s t m key Invalid ne u = absurd u
refused_delete s t m key Exists ne u = absurd u
refused_delete s t m key Full ne u = absurd u
refused_delete s t m key NoMemory ne u = absurd u

pub refusals_change_nothing : RefusalsChangeNothing
refusals_change_nothing = (
  λ s t c m key bytes flags answer ne a. refused_update s t m a.1.0 key bytes flags answer ne a.1.4,
  λ s t c m key answer ne a. refused_delete s t m key answer ne a.1.1,
)

-- ---- updates that are done
pub leads_new : (k : KeyMap) (key : List ℕ) (n : ℕ) → get (insert k key n) key ≡ Some n
leads_new k key n = get-insert nat_list_cmp_total k key n key ∙ ap (λ (b : Bool). cond b (Some n) (get k key)) (itself key)
  where
    itself : (q : List ℕ) → eq_by_cmp (slice_cmp nat_cmp) q q ≡ true
    itself q = ap is_eq (tied_itself nat_list_cmp_total q)

after_update_makes : (s : Plain) (m : ℕ) (key : List ℕ) (x : Value) → MakesValue s m key x.bytes (after_update s m key x)
after_update_makes s m key x = record {
  next = refl;
  leads = ap (λ (k : KeyMap). get k key) (put-same s.maps m m (insert (s.maps m) key s.made) refl) ∙ leads_new (s.maps m) key s.made;
  bytes_new = ap (λ (y : Value). y.bytes) (put-same s.value s.made s.made x refl);
  old = λ v l. put-other s.value s.made v x (λ e. omega arith);
}

pub updates_make_values : UpdatesMakeValues
updates_make_values s t c m key bytes flags a = subst (MakesValue s m key bytes) (sym a.1.4.1.2)
    (after_update_makes s m key (record { bytes = bytes; span = a.1.4.1.0 }))

-- ---- values stay
abbrev Stays : Plain → Plain → ℕ → Type 0
Stays s t v = (v < t.made) × ((t.value v).span ≡ (s.value v).span)

same_stays : (s t : Plain) (v : ℕ) → t ≡ s → v < s.made → Stays s t v
same_stays s t v e l = subst (λ (z : Plain). Stays s z v) (sym e) (l, refl)

update_stays : (s t : Plain) (m : ℕ) (h : MapShape) (key bytes : List ℕ) (flags : ℕ) (answer : MapAnswer) (v : ℕ) → Updates s m h key bytes
    flags answer t → v < s.made → Stays s t v
update_stays s t m h key bytes flags Done v u l = subst (λ (z : Plain). Stays s z v) (sym u.1.2)
    (omega arith, ap (λ (x : Value). x.span) ((after_update_makes s m key (record { bytes = bytes; span = u.1.0 })).old v l))
update_stays s t m h key bytes flags Invalid v u l = same_stays s t v u.1 l
update_stays s t m h key bytes flags Busy v u l = same_stays s t v u.1 l
update_stays s t m h key bytes flags Exists v u l = same_stays s t v u.1 l
update_stays s t m h key bytes flags Absent v u l = same_stays s t v u.1 l
update_stays s t m h key bytes flags Full v u l = same_stays s t v u.1 l
update_stays s t m h key bytes flags NoMemory v u l = same_stays s t v u.1 l

delete_stays : (s t : Plain) (m : ℕ) (key : List ℕ) (answer : MapAnswer) (v : ℕ) → Deletes s m key answer t → v < s.made → Stays s t v
delete_stays s t m key Done v u l = subst (λ (z : Plain). Stays s z v) (sym u.1) (l, refl)
delete_stays s t m key Busy v u l = same_stays s t v u l
delete_stays s t m key Absent v u l = same_stays s t v u.1 l
delete_stays s t m key Invalid v u l = absurd u
delete_stays s t m key Exists v u l = absurd u
delete_stays s t m key Full v u l = absurd u
delete_stays s t m key NoMemory v u l = absurd u

looked_stays : (s : Plain) (c : ℕ) (o : Option ℕ) (v : ℕ) → v < s.made → Stays s (after_lookup s c o) v
looked_stays s c None v l = (l, refl)
looked_stays s c (Some w) v l = (l, refl)

event_stays : (s t : Plain) (c : ℕ) (e : Event) (v : ℕ) → Allowed s c e t → v < s.made → Stays s t v
event_stays s t c Begin v a l = subst (λ (z : Plain). Stays s z v) (sym a.2) (l, refl)
event_stays s t c End v a l = subst (λ (z : Plain). Stays s z v) (sym a.1) (l, refl)
event_stays s t c (Lookup m key answer) v a l = subst (λ (z : Plain). Stays s z v) (sym a.1.2) (looked_stays s c (get (s.maps m) key) v l)
event_stays s t c (Update m key bytes flags answer) v a l = update_stays s t m a.1.0 key bytes flags answer v a.1.4 l
event_stays s t c (Delete m key answer) v a l = delete_stays s t m key answer v a.1.1 l
event_stays s t c (Keys m ks) v a l = same_stays s t v a.3 l
event_stays s t c (Load at size found) v a l = same_stays s t v a.1.3 l
event_stays s t c (Store at size x) v a l = subst (λ (z : Plain). Stays s z v) (sym a.1.2) (l, span-after_write s a.1.0 at _ _ v)
event_stays s t c (Atomic at size op operand expected found) v a l = subst (λ (z : Plain). Stays s z v) (sym a.1.3) (l, span-after_write s a.1.0 at _ _ v)

pub values_stay : ValuesStay
values_stay s t [] v h l = same_stays s t v (sym h) l
values_stay s t (e ∷ es) v h l =
    let first = event_stays s h.0 e.cpu e.event v h.1 l in
    let rest = values_stay h.0 t es v h.2 first.0 in
    (rest.0, rest.1 ∙ first.1)

-- ---- one value is reached
pub one_value_is_reached : OneValueIsReached
one_value_is_reached s c d v w a n so l p q = elim (equal_or_not v w) [
  | inl e ↦ e
  | inr ne ↦ absurd (so.apart v w (reached_live s c v a n p) (reached_live s d w a n q) ne a
      (p.covers.0, (let k = p.covers.1 in omega arith)) (q.covers.0, (let k = q.covers.1 in omega arith)))
]

-- ---- writes
module _ (bs others : List ℕ) (i : ℕ) (l : i + length others ≤ length bs) where
  front : length (take i bs) ≡ i
  front = length-take-le i bs (omega arith)

  whole : length (take i bs ++ others) ≡ i + length others
  whole = length-append (take i bs) others ∙ ap (λ (n : ℕ). n + length others) front

  -- a byte before them, a byte after them, and they themselves
  byte_before : (k : ℕ) → k < i → slice_index (with_part bs i others) k ≡ slice_index bs k
  byte_before k h =
      get_or-append (take i bs ++ others) (drop (i + length others) bs) 0 k (omega (arith, whole))
      ∙ (get_or-append (take i bs) others 0 k (omega (arith, front)) ∙ get_or-take i bs k 0 h)

  byte_behind : (k : ℕ) → i + length others ≤ k → slice_index (with_part bs i others) k ≡ slice_index bs k
  byte_behind k h =
      get_or-append_right (take i bs ++ others) (drop (i + length others) bs) (i + length others) k 0 whole h
      ∙ (get_or-drop (i + length others) bs (k - (i + length others)) 0 ∙ ap (λ (n : ℕ). get_or bs n 0)
      (let e : i + length others + (k - (i + length others)) ≡ k = omega arith in e))

pub writes_touch_named_bytes : WritesTouchNamedBytes
writes_touch_named_bytes s c v a n x so r =
    let bs = (s.value v).bytes in
    let i = a - (s.value v).span.at in
    let low = low_bytes n x in
    let low_size : length low ≡ n = length-low_bytes n x in
    let size : length bs ≡ (s.value v).span.size = so.sizes v (so.live_made v (reached_live s c v a n r)) in
    let from : (s.value v).span.at ≤ a = r.covers.0 in
    let to : a + n ≤ (s.value v).span.at + (s.value v).span.size = r.covers.1 in
    let fits : i + length low ≤ length bs = omega arith in
    let now : Value = record (s.value v) { bytes = with_part bs i low } in
    let here : (after_write s v a n x).value v ≡ now = put-same s.value v v now refl in (
      λ w ne. put-other s.value v w now ne,
      λ b inside beside.
          ap (λ (y : Value). slice_index y.bytes (b - y.span.at)) here
          ∙ elim beside [
            | inl k ↦ byte_before bs low i fits (b - (s.value v).span.at) (let h : (s.value v).span.at ≤ b = inside.0 in omega arith)
            | inr k ↦ byte_behind bs low i fits (b - (s.value v).span.at) (let h : (s.value v).span.at ≤ b = inside.0 in omega arith)
          ],
      ap (λ (y : Value). little_endian (part y.bytes (a - y.span.at) n)) here
          ∙ (ap (λ (k : ℕ). little_endian (part (with_part bs i low) i k)) (sym low_size) ∙ ap little_endian (part-with_part bs i low fits)),
    )

some_bytes : (size : Size) → 0 < bytes_in size
some_bytes Byte = omega arith
some_bytes Half = omega arith
some_bytes Word = omega arith
some_bytes Double = omega arith

-- ---- replies are determined
-- an update is refused by a test, or finds no memory, or is done at the lowest free element
abbrev Refused : Plain → ℕ → MapShape → List ℕ → ℕ → MapAnswer → Plain → Type 0
Refused s m h key flags answer t = (first_of (refusals s m h key flags) ≡ Some answer) × (t ≡ s)

abbrev Lacking : Plain → ℕ → MapShape → List ℕ → ℕ → MapAnswer → Plain → Type 0
Lacking s m h key flags answer t = (answer ≡ NoMemory) × (first_of (refusals s m h key flags) ≡ None) × IsShort s m h × (t ≡ s)

abbrev Placed : Plain → ℕ → MapShape → List ℕ → List ℕ → ℕ → MapAnswer → Plain → Type 0
Placed s m h key bytes flags answer t =
    (answer ≡ Done) × (first_of (refusals s m h key flags) ≡ None) ×
    ((i : ℕ) × IsLowestFree s m h i × (t ≡ after_update s m key (record { bytes = bytes; span = element_span m h i })))

same_map : (s : Plain) (m : ℕ) (g h : MapShape) → IsMap s.shape.maps m g → IsMap s.shape.maps m h → g ≡ h
same_map s m g h p q = let k : Some g ≡ Some h = sym p ∙ q in cc

placed : (s t : Plain) (c m : ℕ) (h : MapShape) (key bytes : List ℕ) (flags : ℕ) → IsMap s.shape.maps m h → Updates s m h key bytes flags
    Done t → Chosen s (Update m key bytes flags Done) t → Placed s m h key bytes flags Done t
placed s t c m h key bytes flags is u ch =
    let same : ch.0 ≡ h = same_map s m ch.0 h ch.2 is in
    let here : (t.value s.made).span ≡ u.1.0 = ap (λ (z : Plain). (z.value s.made).span) u.1.2 ∙ ap (λ (x : Value). x.span)
    (put-same s.value s.made s.made (record { bytes = bytes; span = u.1.0 }) refl) in
    let span : u.1.0 ≡ element_span m h ch.1 = sym here ∙ (ch.4 ∙ ap (λ (g : MapShape). element_span m g ch.1) same) in (
      refl,
      u.0,
      (
        ch.1,
        subst (λ (g : MapShape). IsLowestFree s m g ch.1) same ch.3,
        u.1.2 ∙ ap
            (λ (p : Span). after_update s m key (record { bytes = bytes; span = p })) span,
      ),
    )

outcome : (s t : Plain) (c m : ℕ) (h : MapShape) (key bytes : List ℕ) (flags : ℕ) (answer : MapAnswer) → IsMap s.shape.maps m h → Updates s
    m h key bytes flags answer t → Chosen s (Update m key bytes flags answer) t
    → Refused s m h key flags answer t ⊎ (Lacking s m h key flags answer t ⊎ Placed s m h key bytes flags answer t)
outcome s t c m h key bytes flags Done is u ch = inr (inr (placed s t c m h key bytes flags is u ch))
outcome s t c m h key bytes flags NoMemory is u ch = inr (inl (refl, u.0, subst (IsShort s m) (same_map s m ch.0 h ch.1 is) ch.2, u.1))
outcome s t c m h key bytes flags Busy is u ch = absurd ch
outcome s t c m h key bytes flags Invalid is u ch = inl (u.0, u.1)
outcome s t c m h key bytes flags Exists is u ch = inl (u.0, u.1)
outcome s t c m h key bytes flags Absent is u ch = inl (u.0, u.1)
outcome s t c m h key bytes flags Full is u ch = inl (u.0, u.1)

-- two lowest free elements are one
lowest_one : (s : Plain) (m : ℕ) (h : MapShape) (i j : ℕ) → IsLowestFree s m h i → IsLowestFree s m h j → i ≡ j
lowest_one s m h i j p q = elim (cases_order i j) [
  | inl e ↦ e
  | inr k ↦ elim k [ inl l ↦ absurd (p.free (q.lowest i l)) | inr l ↦ absurd (q.free (p.lowest j l)) ]
]

one_outcome : (s t u : Plain) (m : ℕ) (h : MapShape) (key bytes : List ℕ) (flags : ℕ) (x y : MapAnswer)
    → Refused s m h key flags x t ⊎ (Lacking s m h key flags x t ⊎ Placed s m h key bytes flags x t)
    → Refused s m h key flags y u ⊎ (Lacking s m h key flags y u ⊎ Placed s m h key bytes flags y u)
    → (x ≡ y) × (t ≡ u)
one_outcome s t u m h key bytes flags x y (inl p) (inl q) = ((let k : Some x ≡ Some y = sym p.0 ∙ q.0 in cc), p.1 ∙ sym q.1)
one_outcome s t u m h key bytes flags x y (inl p) (inr (inl q)) = absurd (let k : Some x ≡ None = sym p.0 ∙ q.1 in cc)
one_outcome s t u m h key bytes flags x y (inl p) (inr (inr q)) = absurd (let k : Some x ≡ None = sym p.0 ∙ q.1 in cc)
one_outcome s t u m h key bytes flags x y (inr (inl p)) (inl q) = absurd (let k : Some y ≡ None = sym q.0 ∙ p.1 in cc)
one_outcome s t u m h key bytes flags x y (inr (inl p)) (inr (inl q)) = (p.0 ∙ sym q.0, p.3 ∙ sym q.3)
one_outcome s t u m h key bytes flags x y (inr (inl p)) (inr (inr q)) = absurd (q.2.1.free (p.2 q.2.0 q.2.1.inside))
one_outcome s t u m h key bytes flags x y (inr (inr p)) (inl q) = absurd (let k : Some y ≡ None = sym q.0 ∙ p.1 in cc)
one_outcome s t u m h key bytes flags x y (inr (inr p)) (inr (inl q)) = absurd (p.2.1.free (q.2 p.2.0 p.2.1.inside))
one_outcome s t u m h key bytes flags x y (inr (inr p)) (inr (inr q)) = (
  p.0 ∙ sym q.0,
  p.2.2 ∙ (ap (λ (i : ℕ). after_update s m key (record { bytes = bytes; span = element_span m h i })) (lowest_one s m h p.2.0 q.2.0 p.2.1 q.2.1) ∙ sym q.2.2),
)

updates_once : (s t u : Plain) (c m : ℕ) (key bytes : List ℕ) (flags : ℕ) (x y : MapAnswer) → PlainlyAllowed s c
    (Update m key bytes flags x) t → PlainlyAllowed s c (Update m key bytes flags y) u → (x ≡ y) × (t ≡ u)
updates_once s t u c m key bytes flags x y p q =
    let h = p.0.1.0 in
    let same : q.0.1.0 ≡ h = same_map s m q.0.1.0 h q.0.1.1 p.0.1.1 in
    one_outcome s t u m h key bytes flags x y
    (outcome s t c m h key bytes flags x p.0.1.1 p.0.1.4 p.1)
    (outcome s u c m h key bytes flags y p.0.1.1 (subst (λ (g : MapShape). Updates s m g key bytes flags y u) same q.0.1.4) q.1)

deletes_once : (s t u : Plain) (m : ℕ) (key : List ℕ) (x y : MapAnswer) → Deletes s m key x t → Deletes s m key y u → Chosen s
    (Delete m key x) t → Chosen s (Delete m key y) u → (x ≡ y) × (t ≡ u)
deletes_once s t u m key Done Done p q a b = (refl, p.1 ∙ sym q.1)
deletes_once s t u m key Done Absent p q a b = absurd (let k = sym p.0 ∙ q.0 in cc)
deletes_once s t u m key Absent Done p q a b = absurd (let k = sym p.0 ∙ q.0 in cc)
deletes_once s t u m key Absent Absent p q a b = (refl, p.1 ∙ sym q.1)
deletes_once s t u m key Done Busy p q a b = absurd b
deletes_once s t u m key Absent Busy p q a b = absurd b
deletes_once s t u m key Busy y p q a b = absurd a
deletes_once s t u m key Invalid y p q a b = absurd p
deletes_once s t u m key Exists y p q a b = absurd p
deletes_once s t u m key Full y p q a b = absurd p
deletes_once s t u m key NoMemory y p q a b = absurd p
deletes_once s t u m key Done Invalid p q a b = absurd q
deletes_once s t u m key Done Exists p q a b = absurd q
deletes_once s t u m key Done Full p q a b = absurd q
deletes_once s t u m key Done NoMemory p q a b = absurd q
deletes_once s t u m key Absent Invalid p q a b = absurd q
deletes_once s t u m key Absent Exists p q a b = absurd q
deletes_once s t u m key Absent Full p q a b = absurd q
deletes_once s t u m key Absent NoMemory p q a b = absurd q

-- accesses reach one value, so they find one number and leave one store
module _ (s : Plain) (so : IsSoundStore s) (c : ℕ) (at : ℕ) (size : Size) where
  one_reached : (v w : ℕ) → Reaches s c v at (bytes_in size) → Reaches s c w at (bytes_in size) → w ≡ v
  one_reached v w p q = one_value_is_reached s c c w v at (bytes_in size) so (some_bytes size) q p

  loads_once : (t u : Plain) (x y : ℕ) → Allowed s c (Load at size x) t → Allowed s c (Load at size y) u → (x ≡ y) × (t ≡ u)
  loads_once t u x y p q = (
    p.1.2 ∙ (ap (λ (v : ℕ). number_in s v at (bytes_in size)) (sym (one_reached p.1.0 q.1.0 p.1.1 q.1.1)) ∙ sym q.1.2),
    p.1.3 ∙ sym q.1.3,
  )

  stores_once : (t u : Plain) (x : ℕ) → Allowed s c (Store at size x) t → Allowed s c (Store at size x) u → t ≡ u
  stores_once t u x p q = p.1.2 ∙ (ap (λ (v : ℕ). after_write s v at (bytes_in size) x) (sym (one_reached p.1.0 q.1.0 p.1.1.reaches q.1.1.reaches)) ∙ sym q.1.2)

  atomics_once : (t u : Plain) (op : Change) (operand expected x y : ℕ) → Allowed s c (Atomic at size op operand expected x) t → Allowed s c
      (Atomic at size op operand expected y) u → (x ≡ y) × (t ≡ u)
  atomics_once t u op operand expected x y p q =
      let reached = one_reached p.1.0 q.1.0 p.1.1.reaches q.1.1.reaches in
      let found : x ≡ y = p.1.2 ∙ (ap (λ (v : ℕ). number_in s v at (bytes_in size)) (sym reached) ∙ sym q.1.2) in (
        found,
        p.1.3
            ∙ (ap (λ (z : ℕ). after_write s p.1.0 at (bytes_in size) (number_after op (bytes_in size) z operand expected)) found
            ∙ (ap (λ (v : ℕ). after_write s v at (bytes_in size) (number_after op (bytes_in size) y operand expected)) (sym reached) ∙ sym q.1.3)),
      )

-- the same call, with the reply of another event
determined : (s t u : Plain) (c : ℕ) (e f : Event) → IsSoundStore s → PlainlyAllowed s c e t → PlainlyAllowed s c f u → asked e ≡ asked f → (e ≡ f) × (t ≡ u)
determined s t u c Begin Begin so p q h = (refl, p.0.2 ∙ sym q.0.2)
determined s t u c End End so p q h = (refl, p.0.1 ∙ sym q.0.1)
determined s t u c (Lookup m key x) (Lookup n other y) so p q h =
    let g : Lookup n other y ≡ Lookup m key y = cc in
    let r : PlainlyAllowed s c (Lookup m key y) u = subst (λ (z : Event). PlainlyAllowed s c z u) g q in
    (ap (λ (o : Option Span). Lookup m key o) (p.0.1.1 ∙ sym r.0.1.1) ∙ sym g, p.0.1.2 ∙ sym r.0.1.2)
determined s t u c (Update m key bytes flags x) (Update n other more flags' y) so p q h =
    let g : Update n other more flags' y ≡ Update m key bytes flags y = cc in
    let r : PlainlyAllowed s c (Update m key bytes flags y) u = subst (λ (z : Event). PlainlyAllowed s c z u) g q in
    let once = updates_once s t u c m key bytes flags x y p r in
    (ap (λ (a : MapAnswer). Update m key bytes flags a) once.0 ∙ sym g, once.1)
determined s t u c (Delete m key x) (Delete n other y) so p q h =
    let g : Delete n other y ≡ Delete m key y = cc in
    let r : PlainlyAllowed s c (Delete m key y) u = subst (λ (z : Event). PlainlyAllowed s c z u) g q in
    let once = deletes_once s t u m key x y p.0.1.1 r.0.1.1 p.1 r.1 in
    (ap (λ (a : MapAnswer). Delete m key a) once.0 ∙ sym g, once.1)
determined s t u c (Keys m x) (Keys n y) so p q h =
    let g : Keys n y ≡ Keys m y = cc in
    let r : PlainlyAllowed s c (Keys m y) u = subst (λ (z : Event). PlainlyAllowed s c z u) g q in
    (ap (λ (z : List (List ℕ)). Keys m z) (p.0.2 ∙ sym r.0.2) ∙ sym g, p.0.3 ∙ sym r.0.3)
determined s t u c (Load at size x) (Load at' size' y) so p q h =
    let g : Load at' size' y ≡ Load at size y = cc in
    let r : PlainlyAllowed s c (Load at size y) u = subst (λ (z : Event). PlainlyAllowed s c z u) g q in
    let once = loads_once s so c at size t u x y p.0 r.0 in
    (ap (λ (z : ℕ). Load at size z) once.0 ∙ sym g, once.1)
determined s t u c (Store at size x) (Store at' size' y) so p q h =
    let g : Store at' size' y ≡ Store at size x = sym h in
    let r : PlainlyAllowed s c (Store at size x) u = subst (λ (z : Event). PlainlyAllowed s c z u) g q in
    (h, stores_once s so c at size t u x p.0 r.0)
determined s t u c (Atomic at size op operand expected x) (Atomic at' size' op' operand' expected' y) so p q h =
    let g : Atomic at' size' op' operand' expected' y ≡ Atomic at size op operand expected y = cc in
    let r : PlainlyAllowed s c (Atomic at size op operand expected y) u = subst (λ (z : Event). PlainlyAllowed s c z u) g q in
    let once = atomics_once s so c at size t u op operand expected x y p.0 r.0 in
    (ap (λ (z : ℕ). Atomic at size op operand expected z) once.0 ∙ sym g, once.1)
determined s t u c e f so p q h = absurd (cc)

pub calls_have_one_reply : CallsHaveOneReply
calls_have_one_reply = determined
