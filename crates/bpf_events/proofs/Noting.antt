-- A call of the store that is noted is a call of the recorder.
use Rattle.std.proofs.Common.{◌≡◌, ◌∙◌, ℕ, true, false, List, [], ◌∷◌, ◌++◌, sym, ap, subst}
use Rattle.bpf_shared.specs.declared.events.Event.{Event}
use Rattle.bpf_shared.specs.declared.events.Entry.{Entry}
use Rattle.bpf_shared.specs.History.{events_of, entry}
use Rattle.bpf_shared.specs.Passage.{Calls}
use Rattle.bpf_shared.proofs.Chains.{events_of-append, events_of-own}
use Rattle.bpf_plain.specs.PlainStore.{Contents, Passes, has_cpu}
use Rattle.bpf_events.specs.Private.Recording.{Recording, PassesNoted}

-- what is noted of a call
abbrev pub IsNoted : Recording → ℕ → Event → Recording → Type 0
IsNoted x c e y = y.lost ≡ false → (x.lost ≡ false) × (c ≡ x.cpu) × (y.events ≡ x.events ++ e ∷ [])

pub noted_call : (x y : Recording) (m : Contents) (c : ℕ) (e : Event) → has_cpu x.store c ≡ true → Calls (Passes x.store m) (has_cpu x.store) c e
    → y.store ≡ m → y.cpu ≡ x.cpu → IsNoted x c e y → Calls (PassesNoted x y) (has_cpu x.store) c e
noted_call x y m c e served call store cpu noted = record {
  others = call.others;
  foreign = call.foreign;
  passage = (
    subst (λ (s : Contents). Passes x.store s log) (sym store) call.passage,
    cpu,
    λ kept.
        let note = noted kept in
        let own : events_of x.cpu log ≡ e ∷ [] = subst (λ (n : ℕ). events_of n log ≡ e ∷ []) note.1 here in
        (note.0, note.2 ∙ ap (λ (es : List Event). x.events ++ es) (sym own)),
  );
}
  where
    log : List Entry
    log = call.others ++ entry c e ∷ []

    here : events_of c log ≡ e ∷ []
    here = events_of-append c call.others (entry c e ∷ []) ∙ (ap (λ (es : List Event). es ++ events_of c (entry c e ∷ []))
        (call.foreign c served) ∙ events_of-own c e)

-- a call of which nothing is noted
pub lost_call : (x y : Recording) (m : Contents) (c : ℕ) (e : Event) → Calls (Passes x.store m) (has_cpu x.store) c e
    → y.store ≡ m → y.cpu ≡ x.cpu → y.lost ≡ true → Calls (PassesNoted x y) (has_cpu x.store) c e
lost_call x y m c e call store cpu lost = record {
  others = call.others;
  foreign = call.foreign;
  passage = (
    subst (λ (s : Contents). Passes x.store s (call.others ++ entry c e ∷ [])) (sym store) call.passage,
    cpu,
    λ kept. let no : true ≡ false = sym lost ∙ kept in cc,
  );
}
