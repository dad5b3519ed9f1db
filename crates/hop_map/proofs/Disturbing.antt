-- Ports over a reading that takes no lock.
use Rattle.std.proofs.Common.{◌≡◌, ℕ, ◌+◌, ◌^◌, ◌<◌, true, List, Some, None, refl, ap, sym, subst, ◌∙◌}
use Rattle.atomic_table.specs.Seated.{TableId}
use Rattle.bpf_shared.specs.declared.events.Event.TheVariants.{Lookup}
use Rattle.bpf_shared.specs.History.{IsLegal, events_of}
use Rattle.hop_layout.specs.declared.about.About.{About}
use Rattle.hop_words.specs.declared.known.Known.{Known}
use Rattle.hop_words.specs.Inside.{Shown}
use Rattle.hop_words.specs.Kinds.{run_count}
use Rattle.bpf_shared.specs.Own.{in_run}
use Rattle.hop_map.specs.declared.once.Once.{Once}
use Rattle.hop_map.specs.declared.once.Once.TheVariants.{Found, Absent, Disturbed}
use Rattle.hop_map.specs.Finding.{Disturbs, OnceEnds}
use Rattle.hop_map.specs.Port.{Port, IsPortOf}
use Rattle.hop_map.proofs.Ports.{moved, looked_fits, still_runs}

-- what a disturbed reading leaves alone
disturbed_fits : (t : Shown) (p : Port) (z : TableId) (l : Known) (m : ℕ) (key : List ℕ) (first last : ℕ) → IsPortOf t p → z ≡ t.id →
    Disturbs t.about p.known m key first last l
    → IsPortOf t (record { table = z; known = l; arenas = p.arenas; batches = p.batches; spilled = p.spilled })
disturbed_fits t p z l m key first last h table d =
    moved t p z l h (table ∙ sym h.table) (ap (λ (k : Known). k.cpu) d.after) (ap (λ (k : Known). k.limbo) d.after)
    (subst (λ (k : Known). in_run (events_of k.cpu k.seen) ≡ true → run_count t.about k + 1 < 2 ^ 64) (sym d.after) h.room)
    (subst (λ (k : Known). IsLegal t.about.shape k.seen) (sym d.after) h.legal)

pub once_fits : (t : Shown) (p : Port) (z : TableId) (l : Known) (m : ℕ) (key : List ℕ) (o : Once) → IsPortOf t p → z ≡ t.id → OnceEnds
    t.about p.known m key o l
    → IsPortOf t (record { table = z; known = l; arenas = p.arenas; batches = p.batches; spilled = p.spilled })
once_fits t p z l m key (Found s) h table e = looked_fits t p z l m key (Some s) h table e.0
once_fits t p z l m key Absent h table e = looked_fits t p z l m key None h table e.0
once_fits t p z l m key (Disturbed first last) h table e = disturbed_fits t p z l m key first last h table e

pub once_runs : (a : About) (l l' : Known) (m : ℕ) (key : List ℕ) (o : Once) → OnceEnds a l m key o l' → in_run (events_of l.cpu l.seen) ≡
    true → in_run (events_of l'.cpu l'.seen) ≡ true
once_runs a l l' m key (Found s) e runs' = still_runs a l l' (Lookup m key (Some s)) e.0.seen (ap (λ (k : Known). k.cpu) e.0.after) refl runs'
once_runs a l l' m key Absent e runs' = still_runs a l l' (Lookup m key None) e.0.seen (ap (λ (k : Known). k.cpu) e.0.after) refl runs'
once_runs a l l' m key (Disturbed first last) e runs' = subst (λ (k : Known). in_run (events_of k.cpu k.seen) ≡ true) (sym e.after) runs'
