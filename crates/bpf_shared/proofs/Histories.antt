-- Histories that follow each other, and histories that are cut.
use Rattle.std.proofs.Common.{ℕ, List, [], ◌∷◌, ◌++◌, refl, sym, subst}
use Rattle.bpf_shared.specs.declared.events.Event.{Event}
use Rattle.bpf_shared.specs.declared.events.Entry.{Entry}
use Rattle.bpf_shared.specs.Store.{Plain}
use Rattle.bpf_shared.specs.History.{History, Legal, PlainlyLegal}

-- histories follow each other
pub history-append : (step : Plain → ℕ → Event → Plain → Type 0) (s m t : Plain)
    (xs ys : List Entry)
    → History step s xs m → History step m ys t → History step s (xs ++ ys) t
history-append step s m t [] ys p q = subst (λ (z : Plain). History step z ys t) (sym p) q
history-append step s m t (x ∷ xs) ys p q = (p.0, p.1, history-append step p.0 m t xs ys p.2 q)

pub history_cut : (step : Plain → ℕ → Event → Plain → Type 0) (s t : Plain) (xs ys : List Entry)
    → History step s (xs ++ ys) t → (m : Plain) × History step s xs m × History step m ys t
history_cut step s t [] ys p = (s, refl, p)
history_cut step s t (x ∷ xs) ys p = let r = history_cut step p.0 t xs ys p.2 in (r.0, (p.0, p.1, r.1), r.2)

-- what a store of one thread may do, any store may
pub plainly_legal : (s t : Plain) (log : List Entry) → PlainlyLegal s log t → Legal s log t
plainly_legal s t [] p = p
plainly_legal s t (x ∷ xs) p = (p.0, p.1.0, plainly_legal p.0 t xs p.2)
