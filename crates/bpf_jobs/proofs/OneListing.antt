-- A map has one listing, and so the text of maps, variables and arrays is one.
use Rattle.std.proofs.Common.{◌≡◌, ℕ, zero, suc, Bool, true, false, List, [], ◌++◌, length, sym, ap, ◌∙◌}
use Rattle.std.specs.Prelude.{slice_index_or}
use Rattle.bpf_shared.specs.Store.{Plain}
use Rattle.bpf_shared.specs.Listing.{Pair}
use Rattle.bpf_shared.proofs.OneListing.{one_listing}
use Rattle.bpf_names.specs.Names.{Names}
use Rattle.bpf_jobs.specs.Printed.{key_lines, fixed_lines, AreMapLines, AreMapsAsked}

pub one_map_text : (s : Plain) (names : List (List ℕ)) (n : ℕ) (text other : List ℕ) → AreMapLines s names n text → AreMapLines s names n other → text ≡ other
one_map_text s names zero text other a b = a ∙ sym b
one_map_text s names (suc m) text other a b =
    let before = one_map_text s names m a.0 b.0 a.2 b.2 in
    let pairs = one_listing s m a.1 b.1 a.3 b.3 in
    a.4 ∙ ap (λ (x : List ℕ). x ++ key_lines (slice_index_or names m []) (length a.1) a.1) before
    ∙ ap (λ (p : List Pair). b.0 ++ key_lines (slice_index_or names m []) (length p) p) pairs ∙ sym b.4

pub one_asked : (maps : Bool) (s : Plain) (names : Names) (text other : List ℕ) → AreMapsAsked maps s names text → AreMapsAsked maps s names
    other → text ≡ other
one_asked false s names text other a b = a ∙ sym b
one_asked true s names text other a b =
    let lines = one_map_text s names.maps (length s.shape.maps) a.0 b.0 a.1 b.1 in
    a.2 ∙ (ap (λ (x : List ℕ). x ++ fixed_lines s names) lines ∙ sym b.2)
