-- Stores that waited are made one by one.
use Rattle.std.proofs.Common.{◌≡◌, ℕ, ◌+◌, ◌<◌, true, List, [], ◌∷◌, ◌++◌, length, take, get_or, refl, sym, ap, subst, ◌∙◌}
use Rattle.std.specs.Prelude.{map}
use Rattle.std.proofs.lemmas.List.{map-append, take_more}
use Rattle.bpf_shared.specs.declared.events.Event.{Event}
use Rattle.bpf_shared.specs.declared.events.Entry.{Entry}
use Rattle.bpf_shared.specs.Store.{Plain}
use Rattle.bpf_shared.specs.Sound.{IsSoundStore}
use Rattle.bpf_shared.specs.Choice.{PlainlyAllowed}
use Rattle.bpf_shared.specs.History.{PlainlyLegal, entry}
use Rattle.bpf_shared.specs.Passage.{Calls}
use Rattle.bpf_shared.proofs.Histories.{history-append}
use Rattle.bpf_plain.specs.PlainStore.{Contents, has_cpu, StandsFor, Passes}
use Rattle.bpf_machine.proofs.OwnEvents.{call_leads}
use Rattle.bpf_buffering.specs.Waiting.{event_of}
use Rattle.bpf_buffering.specs.declared.waiting.Stored.{Stored}

-- these stores lead from the first contents to the second
abbrev pub Makes : ℕ → Contents → List Stored → Contents → Type 0
Makes c x waiting y = (s : Plain) → IsSoundStore s → StandsFor x s
    → (t : Plain) × PlainlyLegal s (map (entry c) (map event_of waiting)) t × IsSoundStore t × StandsFor y t

pub one_more : (c : ℕ) (x y z : Contents) (waiting : List Stored) (n : ℕ) (d : Stored) → n < length waiting → has_cpu y c ≡ true → has_cpu z ≡ has_cpu y
    → Makes c x (take n waiting) y → Calls (Passes y z) (has_cpu y) c (event_of (get_or waiting n d)) → Makes c x (take (n + 1) waiting) z
one_more c x y z waiting n d less served same made call s so shows =
    let before = made s so shows in
    let e : Event = event_of (get_or waiting n d) in
    let now = call_leads y z c e served call same before.0 before.2 before.3 in
    let longer : take (n + 1) waiting ≡ take n waiting ++ get_or waiting n d ∷ [] = take_more waiting n d less in
    let entries : map (entry c) (map event_of (take (n + 1) waiting)) ≡ map (entry c) (map event_of (take n waiting)) ++ entry c e ∷ [] =
    ap (λ (es : List Stored). map (entry c) (map event_of es)) longer
    ∙ ap (map (entry c)) (map-append event_of (take n waiting) (get_or waiting n d ∷ []))
    ∙ map-append (entry c) (map event_of (take n waiting)) (e ∷ []) in
    let joined : PlainlyLegal s (map (entry c) (map event_of (take n waiting)) ++ entry c e ∷ []) now.0 =
    history-append PlainlyAllowed s before.0 now.0 (map (entry c) (map event_of (take n waiting))) (entry c e ∷ []) before.1 (now.0, now.1, refl) in
    (now.0, subst (λ (log : List Entry). PlainlyLegal s log now.0) (sym entries) joined, now.2, now.3)
