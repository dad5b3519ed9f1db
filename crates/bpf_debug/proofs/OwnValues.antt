-- No two keys lead to one value: calls keep it so, and so do turns.
use Rattle.std.proofs.Common.{◌≡◌, ℕ, zero, suc, List, [], ◌∷◌, Option, Some, None, ◌⊎◌, inl, inr, sym, ap, subst, ◌∙◌, arith}
use Rattle.std.specs.FinMap.{get, insert, remove, get-empty}
use Rattle.std.specs.Ordering.{nat_cmp}
use Rattle.std.specs.Cmp.Lexicographic.{slice_cmp}
use Rattle.bpf_shared.specs.declared.events.Event.{Event}
use Rattle.bpf_shared.specs.declared.events.Entry.{Entry}
use Rattle.bpf_shared.specs.declared.events.Event.TheVariants.{Begin, End, Lookup, Update, Delete, Keys, Load, Store, Atomic}
use Rattle.bpf_shared.specs.declared.events.MapAnswer.{MapAnswer}
use Rattle.bpf_shared.specs.declared.events.MapAnswer.TheVariants.{Done, Invalid, Busy, Exists, Absent, Full, NoMemory}
use Rattle.bpf_shared.specs.declared.shapes.MapShape.{MapShape}
use Rattle.bpf_shared.specs.Shape.{Shape}
use Rattle.bpf_shared.specs.Store.{KeyMap, Value, Plain, put, as_made, Finds}
use Rattle.bpf_shared.specs.Events.{after_lookup, after_update, Updates, after_delete, Deletes, Allowed}
use Rattle.bpf_shared.specs.History.{PlainlyLegal}
use Rattle.bpf_shared.specs.Sound.{IsSoundStore}
use Rattle.bpf_shared.proofs.Puts.{equal_or_not, put_cases, insert_cases, remove_cases}
use Rattle.bpf_shared.proofs.Soundness.{allowed_sound}
use Rattle.bpf_plain.specs.Shows.{LeadsTo}
use Rattle.bpf_loader.specs.Loaded.{Loaded}
use Rattle.bpf_cpu.specs.declared.cpu.Cpu.{Cpu}
use Rattle.bpf_cpu.specs.declared.outcome.Outcome.{Outcome}
use Rattle.bpf_cpu.specs.Task.{Task}
use Rattle.bpf_machine.specs.declared.machine.Turn.{Turn}
use Rattle.bpf_machine.specs.Schedule.{World, Advances, Lists, Settles, GoesOn, TakesTurn, RunsSchedule}
use Rattle.bpf_debug.specs.Laws.{KeysHaveOwnValues}

-- ---- one key leads to an address
pub one_key : (s : Plain) → IsSoundStore s → KeysHaveOwnValues s → (a : ℕ) (key other : List ℕ) → LeadsTo s a key → LeadsTo s a other → key ≡ other
one_key s so own a key other x y = elim (equal_or_not x.1 y.1) [
  | inl e ↦ own x.0 y.0 x.1 key other x.2 (subst (λ (v : ℕ). Finds s y.0 other v) (sym e) y.2)
  | inr ne ↦ absurd (so.apart x.1 y.1 (inl (x.0, (key, x.2))) (inl (y.0, (other, y.2))) ne a x.3 y.3)
]

-- ---- calls
pub made_own : (h : Shape) → KeysHaveOwnValues (as_made h)
made_own h m n v key other found again = let k = sym (get-empty {X = ℕ} (slice_cmp nat_cmp) key) ∙ found in cc

-- of a map that changed at one key: a value that a key leads to is this one's, or was led to before
found_was : (s : Plain) (m : ℕ) (key : List ℕ) (new : KeyMap) (o : Option ℕ) → ((q : List ℕ) → ((q ≡ key) × (get new q ≡ o)) ⊎ (get new q ≡ get (s.maps m) q))
    → (d : ℕ) (q : List ℕ) (v : ℕ) → get (put s.maps m new d) q ≡ Some v → ((q ≡ key) × (o ≡ Some v)) ⊎ Finds s d q v
found_was s m key new o same d q v h = elim (put_cases s.maps m d new) [
  | inr k ↦ inr (sym (ap (λ (x : KeyMap). get x q) k.1) ∙ h)
  | inl k ↦
      let there : get new q ≡ Some v = sym (ap (λ (x : KeyMap). get x q) k.1) ∙ h in
      elim (same q) [
        | inl e ↦ inl (e.0, sym e.1 ∙ there)
        | inr e ↦ inr (ap (λ (x : ℕ). get (s.maps x) q) k.0 ∙ (sym e ∙ there))
      ]
]

deleted_own : (s : Plain) (m : ℕ) (key : List ℕ) → KeysHaveOwnValues s → KeysHaveOwnValues (after_delete s m key)
deleted_own s m key own d e v q r found again = own d e v q r (was d q v found) (was e r v again)
  where
    was : (d : ℕ) (q : List ℕ) (v : ℕ) → Finds (after_delete s m key) d q v → Finds s d q v
    was d q v h = elim (found_was s m key (remove (s.maps m) key) None (remove_cases (s.maps m) key) d q v h) [
      | inl k ↦ absurd (let e : None ≡ Some v = k.1 in cc)
      | inr k ↦ k
    ]

updated_own : (s : Plain) (m : ℕ) (key : List ℕ) (x : Value) → IsSoundStore s → KeysHaveOwnValues s → KeysHaveOwnValues (after_update s m key x)
updated_own s m key x so own d e v q r found again = elim (was d q v found) [
  | inl a ↦ elim (was e r v again) [ inl b ↦ a.0 ∙ sym b.0 | inr b ↦ absurd (new_or_old e r v a.1 b) ]
  | inr a ↦ elim (was e r v again) [ inl b ↦ absurd (new_or_old d q v b.1 a) | inr b ↦ own d e v q r a b ]
]
  where
    was : (d : ℕ) (q : List ℕ) (v : ℕ) → Finds (after_update s m key x) d q v → ((q ≡ key) × (Some s.made ≡ Some v)) ⊎ Finds s d q v
    was d q v h = found_was s m key (insert (s.maps m) key s.made) (Some s.made) (insert_cases (s.maps m) key s.made) d q v h

    new_or_old : (d : ℕ) (q : List ℕ) (v : ℕ) → Some s.made ≡ Some v → Finds s d q v → ⊥
    new_or_old d q v e found =
        let same : s.made ≡ v = cc in
        let less = so.live_made v (inl (d, (q, found))) in
        omega arith

updates_own : (s t : Plain) (m : ℕ) (h : MapShape) (key bytes : List ℕ) (flags : ℕ) (answer : MapAnswer) → IsSoundStore s →
    KeysHaveOwnValues s → Updates s m h key bytes flags answer t → KeysHaveOwnValues t
updates_own s t m h key bytes flags Done so own u = subst KeysHaveOwnValues (sym u.1.2) (updated_own s m key (record { bytes = bytes; span = u.1.0 }) so own)
updates_own s t m h key bytes flags Invalid so own u = subst KeysHaveOwnValues (sym u.1) own
updates_own s t m h key bytes flags Busy so own u = subst KeysHaveOwnValues (sym u.1) own
updates_own s t m h key bytes flags Exists so own u = subst KeysHaveOwnValues (sym u.1) own
updates_own s t m h key bytes flags Absent so own u = subst KeysHaveOwnValues (sym u.1) own
updates_own s t m h key bytes flags Full so own u = subst KeysHaveOwnValues (sym u.1) own
updates_own s t m h key bytes flags NoMemory so own u = subst KeysHaveOwnValues (sym u.1) own

deletes_own : (s t : Plain) (m : ℕ) (key : List ℕ) (answer : MapAnswer) → KeysHaveOwnValues s → Deletes s m key answer t → KeysHaveOwnValues t
deletes_own s t m key Done own u = subst KeysHaveOwnValues (sym u.1) (deleted_own s m key own)
deletes_own s t m key Busy own u = subst KeysHaveOwnValues (sym u) own
deletes_own s t m key Absent own u = subst KeysHaveOwnValues (sym u.1) own
deletes_own s t m key Invalid own u = absurd u
deletes_own s t m key Exists own u = absurd u
deletes_own s t m key Full own u = absurd u
deletes_own s t m key NoMemory own u = absurd u

looked_own : (s : Plain) (c : ℕ) (o : Option ℕ) → KeysHaveOwnValues s → KeysHaveOwnValues (after_lookup s c o)
looked_own s c None own = own
looked_own s c (Some v) own = own

allowed_own : (s t : Plain) (c : ℕ) (e : Event) → IsSoundStore s → KeysHaveOwnValues s → Allowed s c e t → KeysHaveOwnValues t
allowed_own s t c Begin so own a = subst KeysHaveOwnValues (sym a.2) own
allowed_own s t c End so own a = subst KeysHaveOwnValues (sym a.1) own
allowed_own s t c (Lookup m key found) so own a = subst KeysHaveOwnValues (sym a.1.2) (looked_own s c (get (s.maps m) key) own)
allowed_own s t c (Update m key bytes flags answer) so own a = updates_own s t m a.1.0 key bytes flags answer so own a.1.4
allowed_own s t c (Delete m key answer) so own a = deletes_own s t m key answer own a.1.1
allowed_own s t c (Keys m ks) so own a = subst KeysHaveOwnValues (sym a.3) own
allowed_own s t c (Load at size found) so own a = subst KeysHaveOwnValues (sym a.1.3) own
allowed_own s t c (Store at size x) so own a = subst KeysHaveOwnValues (sym a.1.2) own
allowed_own s t c (Atomic at size op operand expected found) so own a = subst KeysHaveOwnValues (sym a.1.3) own

-- ---- turns
abbrev pub IsOwn : Plain → Type 0
IsOwn s = IsSoundStore s × KeysHaveOwnValues s

call_keeps : (s t : Plain) (c : ℕ) (e : Event) → IsOwn s → Allowed s c e t → IsOwn t
call_keeps s t c e is a = (allowed_sound s t c e is.0 a, allowed_own s t c e is.0 is.1 a)

pub calls_keep : (s t : Plain) (log : List Entry) → IsOwn s → PlainlyLegal s log t → IsOwn t
calls_keep s t [] is l = subst IsOwn l is
calls_keep s t (e ∷ es) is l = calls_keep l.0 t es (call_keeps s l.0 e.cpu e.event is l.1.0) l.2

step_keeps : (program : Loaded) (c : ℕ) (s : Plain) (old : Cpu) (n : ℕ) (end : Option Outcome) (t : Plain) (new : Cpu) (left : ℕ) → IsOwn s
    → Advances program c s old n end t new left → IsOwn t
step_keeps program c s old zero end t new left is a = subst IsOwn (sym a.1) is
step_keeps program c s old (suc n) end t new left is a = calls_keep s t _ is a.3

abbrev Keeps : World → Type 0
Keeps w = IsOwn w.store

list_keeps : (w : World) (c : ℕ) (z : World) → Keeps w → Lists w c z → Keeps z
list_keeps w c z is (inl a) = subst Keeps (sym a.1) is
list_keeps w c z is (inr a) = subst Keeps (sym a.1) is

end_keeps : (w : World) (c j : ℕ) (task : Task) (new : Cpu) (left : ℕ) (end : Option Outcome) (answer : Turn) (z : World) → Keeps w →
    Settles w c j task new left end answer z → Keeps z
end_keeps w c j task new left None answer z is a = subst Keeps (sym a.1) is
end_keeps w c j task new left (Some end) answer z is a = list_keeps _ c z (call_keeps w.store a.0 c End is a.1.0) a.3

job_keeps : (w : World) (c j : ℕ) (task : Task) (old : Cpu) (left : ℕ) (answer : Turn) (z : World) → Keeps w → GoesOn w c j task old left answer z → Keeps z
job_keeps w c j task old left answer z is a =
    end_keeps (record w { store = a.2 }) c j task a.3 a.4 a.1 answer z (step_keeps a.0 c w.store old left a.1 a.2 a.3 a.4 is a.6) a.7

turn_keeps : (w : World) (c : ℕ) (answer : Turn) (z : World) → Keeps w → TakesTurn w c answer z → Keeps z
turn_keeps w c answer z is (inl a) = job_keeps w c a.0 a.1 a.2 a.3 answer z is a.5
turn_keeps w c answer z is (inr (inl a)) =
    let b = a.1 in
    job_keeps (record w { store = b.3 }) c b.0 b.1 _ b.1.budget answer z (call_keeps w.store b.3 c Begin is b.6.0) b.7
turn_keeps w c answer z is (inr (inr a)) = subst Keeps (sym a.3) is

pub turns_keep : (w : World) (turns : List ℕ) (z : World) → Keeps w → RunsSchedule w turns z → Keeps z
turns_keep w [] z is runs = subst Keeps (sym runs) is
turns_keep w (c ∷ cs) z is runs = turns_keep runs.1 cs z (turn_keeps w c runs.0 runs.1 is runs.2) runs.3
