-- What is kept while ends are kept with those of equal jobs exchanged.
use Rattle.std.proofs.Common.{◌≡◌, ◌∙◌, ℕ, zero, suc, ◌+◌, ◌-◌, ◌<◌, ◌≤◌, List, [], ◌∷◌, ◌++◌, Some, inl, inr, length, map, take}
use Rattle.std.proofs.Common.{refl, sym, ap, subst, append-nil, append_assoc, length-append, arith}
use Rattle.std.specs.Prelude.{slice_get, slice_index_or}
use Rattle.std.proofs.Math.ListN.{get_or-append}
use Rattle.std.proofs.Math.Seq.{get_or-append_seam}
use Rattle.std.proofs.lemmas.Bool.{cases_lt}
use Rattle.std.proofs.lemmas.List.{take_all, take-append-le}
use Rattle.std.proofs.lemmas.Option.{slice_get_within, slice_get-get_or, get_or_from_slice_get}
use Rattle.bpf_base.proofs.Lists.{slice_get-front, slice_get-append}
use Rattle.bpf_shared.specs.Shape.{Shape}
use Rattle.bpf_plain.specs.PlainStore.{Contents}
use Rattle.bpf_loader.specs.Loaded.{Loaded}
use Rattle.bpf_cpu.specs.Task.{Task, InHand, Ended}
use Rattle.bpf_equal.specs.Groups.{ArePeers}
use Rattle.bpf_live.specs.Laws.{AlikeIsAnEquivalence}
use Rattle.bpf_machine.specs.Cover.{IsShown}
use Rattle.bpf_machine.specs.Machine.{MachineState, Shows}
use Rattle.bpf_machine.specs.Patient.{AreRefilled}
use Rattle.bpf_machine.specs.Rounds.{HaveEnded}
use Rattle.bpf_machine.specs.Schedule.{World}
use Rattle.bpf_alike.specs.Covers.{IsKeptAlike}
use Rattle.bpf_alike.proofs.AlikeAhead.{dead_ended}
use Rattle.bpf_equal.specs.declared.peers.Peer.{Peer}
use Rattle.bpf_equal.specs.Peers.{AreOneGroup}
use Rattle.bpf_equal.specs.Permutations.{exchanged}
use Rattle.bpf_explore.specs.declared.explorer.Origin.{Origin}
use Rattle.bpf_explore.specs.declared.spread.Swap.{Swap}
use Rattle.bpf_explore.specs.Album.{AlbumState, AreLedThrough, HasMore, HaveEndedAt, IsShownAt, LeadsThrough, Stock}
use Rattle.bpf_explore.specs.Search.{Extends}
use Rattle.bpf_explore.specs.Private.Album.{AddsOne}
use Rattle.bpf_explore.specs.Private.Answers.{StartsFresh}
use Rattle.bpf_explore.specs.Private.Peers.{AreAllRefilled, AreOfKind, CanExchange, HasGrown, IsExchanged, IsKeptAround, IsKeptExchanged, IsKeptFrom}
use Rattle.bpf_explore.specs.Private.Spread.{AreRuns, AreSpread, IsSwap, no_swap, swap_at}
use Rattle.bpf_explore.specs.Private.Trail.{AreOrigins}
use Rattle.bpf_explore.proofs.AlbumLaws.{still_at}
use Rattle.bpf_explore.proofs.ExchangeLaws.{ended_exchanged}
use Rattle.bpf_explore.proofs.PeerLaws.{few_there, leads_exchanged}
use Rattle.bpf_explore.proofs.ScoutLaws.{same_has_more}
use Rattle.bpf_explore.proofs.TrailLaws.{leads_still, shown_before, shown_still}

-- ---- while more is kept
module _ (old new : List MachineState) (more : Extends old new) where
  pub at_before : (i : ℕ) (m : MachineState) → i < length old → slice_get new i ≡ Some m → slice_get old i ≡ Some m
  at_before i m inside at = sym (slice_get-front old more.0 i inside) ∙ (ap (λ (ms : List MachineState). slice_get ms i) (sym more.1) ∙ at)

  pub longer : length old ≤ length new
  longer = let size = ap (λ (ms : List MachineState). length ms) more.1 ∙ length-append old more.0 in omega arith

  pub shown_more : (w : World) → IsShown old w → IsShown new w
  shown_more w (i, m, at, shows) = (i, m, still_at old new i m at more, shows)

  pub ended_before : (i : ℕ) → i < length old → HaveEndedAt new i → HaveEndedAt old i
  ended_before i inside ended m at = ended m (still_at old new i m at more)

  pub ended_still : (i : ℕ) → i < length old → HaveEndedAt old i → HaveEndedAt new i
  ended_still i inside ended m at = ended m (at_before i m inside at)

  pub exchanged_still : (i j k : ℕ) → i < length old → IsKeptExchanged old i j k → IsKeptExchanged new i j k
  exchanged_still i j k inside is m at = let r = is m (at_before i m inside at) in (r.0, r.1, λ w shows. shown_more w (r.2 w shows))

  first_still : StartsFresh old → StartsFresh new
  first_still (w, fresh, (m, at, shows)) = (w, fresh, (m, still_at old new 0 m at more, shows))

  pub can_still : (stock after : Stock) (peers : List Peer) → HasMore stock after → CanExchange stock old peers → CanExchange after new peers
  can_still stock after peers grows can =
      let first = can.fresh.2 in
      let some = slice_get_within old 0 first.0 first.1 in
      record {
        fit = record {
          are = subst (λ (ps : List Loaded). ArePeers after.shape ps peers) (sym grows.programs)
              (subst (λ (h : Shape). ArePeers h stock.programs peers) (sym grows.shape) can.fit.are);
          first = λ j one m peer at. can.fit.first j one m peer (at_before 0 m (omega arith) at);
        };
        fresh = first_still can.fresh;
      }

pub grown_itself : (a : AlbumState) → HasGrown a a
grown_itself a = record { kept = ([], sym (append-nil a.kept)); stock = same_has_more a.stock a.stock refl; whole = λ all. all }

more_on : (a b c : Stock) → HasMore a b → HasMore b c → HasMore a c
more_on a b c first second = record {
  shape = second.shape ∙ first.shape;
  programs = second.programs ∙ first.programs;
  width = second.width ∙ first.width;
  stores = (
    first.stores.0 ++ second.stores.0,
    second.stores.1 ∙ (ap (λ (xs : List Contents). xs ++ second.stores.0) first.stores.1
        ∙ append_assoc a.stores first.stores.0 second.stores.0),
  );
  parts = (
    first.parts.0 ++ second.parts.0,
    second.parts.1 ∙ (ap (λ (xs : List Task). xs ++ second.parts.0) first.parts.1
        ∙ append_assoc a.parts first.parts.0 second.parts.0),
  );
}

pub grown_on : (a b c : AlbumState) → HasGrown a b → HasGrown b c → HasGrown a c
grown_on a b c first second = record {
  kept = (
    first.kept.0 ++ second.kept.0,
    second.kept.1 ∙ (ap (λ (xs : List MachineState). xs ++ second.kept.0) first.kept.1
        ∙ append_assoc a.kept first.kept.0 second.kept.0),
  );
  stock = more_on a.stock b.stock c.stock first.stock second.stock;
  whole = λ all. second.whole (first.whole all);
}

-- ---- one more came about by an exchange
at_end : (old : List MachineState) (one : MachineState) → slice_get (old ++ one ∷ []) (length old) ≡ Some one
at_end old one = slice_get-append old (one ∷ []) 0 (length old) (omega arith)

-- what shows all that the machine shows has ended
abbrev pub HasEndedAsShown : MachineState → Type 0
HasEndedAsShown m = (one : MachineState) → ((w : World) → Shows m w → Shows one w) → HaveEnded one.jobs

ended_refilled : (jobs : List Task) → HaveEnded jobs → AreRefilled jobs
ended_refilled jobs ended c j task state left hand =
    let end = ended j task hand.listed in
    let no : InHand state left ≡ Ended end.0 = sym hand.at ∙ end.1 in
    cc

pub all_refilled : (old new : List MachineState) (m : MachineState) → HasEndedAsShown m → AddsOne old m new → AreAllRefilled old → AreAllRefilled new
all_refilled old new m ended (inl same) all = subst AreAllRefilled (sym same) all
all_refilled old new m ended (inr (one, same, shows)) all = subst AreAllRefilled (sym same) (λ i n at. elim (cases_lt i (length old)) [
  | inl below ↦ all i n (sym (slice_get-front old (one ∷ []) i below) ∙ at)
  | inr past ↦
      let inside = slice_get_within (old ++ one ∷ []) i n at in
      let size = length-append old (one ∷ []) in
      let last : length old ≡ i = omega arith in
      let two : Some one ≡ Some n = sym (slice_get-append old (one ∷ []) 0 (length old) (omega arith)) ∙ (ap (slice_get (old ++ one ∷ [])) last ∙ at) in
      let is : one ≡ n = cc in
      subst (λ (x : MachineState). AreRefilled x.jobs) is (ended_refilled one.jobs (ended one shows))
])

-- what leads to it
abbrev pub LeadsExchanged : (World → List ℕ → World → Type 0) → List MachineState → Swap → MachineState → Type 0
LeadsExchanged runs old swap m = (schedule : List ℕ) → LeadsThrough runs old 0 schedule swap.«from» → (w : World) → IsShownAt old 0 w
    → (y : World) × runs w (map (exchanged swap.one swap.other) schedule) y × Shows m y

module _ (runs : World → List ℕ → World → Type 0) (law : AreRuns runs) (old : List MachineState) (one : MachineState) where
  leads_before : (i : ℕ) (schedule : List ℕ) → 0 < length old → i < length old → LeadsThrough runs (old ++ one ∷ []) 0 schedule i →
      LeadsThrough runs old 0 schedule i
  leads_before i schedule some inside leads w shown =
      let r = leads w (shown_still runs law.join old (one ∷ []) 0 w shown) in
      (r.0, r.1, shown_before runs law.join old (one ∷ []) i r.0 inside r.2)

  swap_still : (i : ℕ) (swap : Swap) → i < length old → IsSwap runs old i swap → IsSwap runs (old ++ one ∷ []) i swap
  swap_still i swap inside is =
      let before = is.before in
      record {
        before = is.before;
        ended = λ n at. is.ended n (sym (slice_get-front old (one ∷ []) i inside) ∙ at);
        leads = λ schedule leads. leads_still runs law.join old (one ∷ []) 0 i (map (exchanged swap.one swap.other) schedule)
            (omega arith) (is.leads schedule (leads_before swap.«from» schedule (omega arith) (omega arith) leads));
      }

  last_swap : (m : MachineState) (swap : Swap) → swap.«from» < length old → ((w : World) → Shows m w → Shows one w) → HaveEnded one.jobs
      → LeadsExchanged runs old swap m → IsSwap runs (old ++ one ∷ []) (length old) swap
  last_swap m swap inside shows ended leads = record {
    before = inside;
    ended = λ n at. (let two : Some one ≡ Some n = sym (at_end old one) ∙ at in let same : one ≡ n = cc in subst
        (λ (x : MachineState). HaveEnded x.jobs) same ended);
    leads = λ schedule led w shown.
        let here = shown_before runs law.join old (one ∷ []) 0 w (omega arith) shown in
        let r = leads schedule (leads_before swap.«from» schedule (omega arith) inside led) w here in
        (r.0, r.1, (one, at_end old one, shows r.0 r.2));
  }

pub one_more_swap : (runs : World → List ℕ → World → Type 0) → AreRuns runs → (old new : List MachineState) (m : MachineState)
    (origins : List Origin) (swaps : List Swap) (swap : Swap)
    → AreSpread runs old origins swaps → swap.«from» < length old → LeadsExchanged runs old swap m → HasEndedAsShown m → AddsOne old m new
    → AreSpread runs new origins (take (length new - length origins) (swaps ++ swap ∷ []))
one_more_swap runs law old new m origins swaps swap are inside leads ended (inl e) =
    let count = are.count in
    let size : length new ≡ length old = ap (λ (ms : List MachineState). length ms) e in
    let few : length new - length origins ≡ length swaps = omega arith in
    let all : take (length new - length origins) (swaps ++ swap ∷ []) ≡ swaps =
    take-append-le (length new - length origins) swaps (swap ∷ []) (omega arith) ∙ take_all (length new - length origins) swaps (omega arith) in
    subst (λ (ms : List MachineState). AreSpread runs ms origins (take (length new - length origins) (swaps ++ swap ∷ []))) (sym e)
    (subst (AreSpread runs old origins) (sym all) are)
one_more_swap runs law old new m origins swaps swap are inside leads ended (inr (one, e, shows)) =
    let count = are.count in
    let size : length new ≡ length (old ++ one ∷ []) = ap (λ (ms : List MachineState). length ms) e in
    let more = length-append old (one ∷ []) in
    let both = length-append swaps (swap ∷ []) in
    let all : take (length new - length origins) (swaps ++ swap ∷ []) ≡ swaps ++ swap ∷ [] =
    take_all (length new - length origins) (swaps ++ swap ∷ []) (omega arith) in
    let now : AreSpread runs (old ++ one ∷ []) origins (swaps ++ swap ∷ []) = record {
      turns = subst (λ (ms : List MachineState). AreOrigins runs ms origins)
          (sym (take-append-le (length origins) old (one ∷ []) (omega arith))) are.turns;
      count = omega arith;
      each = λ s less. elim (cases_lt s (length swaps)) [
        | inl below ↦
            subst (IsSwap runs (old ++ one ∷ []) (length origins + s)) (sym (get_or-append swaps (swap ∷ []) no_swap s below))
            (swap_still runs law old one (length origins + s) (swap_at swaps s) (omega arith) (are.each s below))
        | inr past ↦
            let last : s ≡ length swaps = omega arith in
            let place : length old ≡ length origins + s = omega arith in
            let at : swap_at (swaps ++ swap ∷ []) s ≡ swap = ap (swap_at (swaps ++ swap ∷ [])) last ∙ get_or-append_seam swaps swap [] no_swap in
            subst (IsSwap runs (old ++ one ∷ []) (length origins + s)) (sym at)
            (subst (λ (i : ℕ). IsSwap runs (old ++ one ∷ []) i swap) place (last_swap runs law old one m swap inside shows (ended one shows) leads))
      ];
    } in
    subst (λ (ms : List MachineState). AreSpread runs ms origins (take (length new - length origins) (swaps ++ swap ∷ []))) (sym e)
    (subst (AreSpread runs (old ++ one ∷ []) origins) (sym all) now)

-- as many of the exchanges as machines are kept
pub cut_swaps : (runs : World → List ℕ → World → Type 0) → AreRuns runs → (old new : List MachineState) (m : MachineState)
    (origins : List Origin) (swaps pushed cut : List Swap) (swap : Swap) (n : ℕ)
    → AreSpread runs old origins swaps → swap.«from» < length old → LeadsExchanged runs old swap m → HasEndedAsShown m → AddsOne old m new →
    pushed ≡ swaps ++ swap ∷ []
    → n ≡ length new - length origins → cut ≡ take n pushed → AreSpread runs new origins cut
cut_swaps runs law old new m origins swaps pushed cut swap n are inside leads ended adds push count is =
    subst (AreSpread runs new origins) (sym (is ∙ (ap (λ (k : ℕ). take k pushed) count ∙ ap (take (length new - length origins)) push)))
    (one_more_swap runs law old new m origins swaps swap are inside leads ended adds)

-- ---- what is kept of an end
pub kept_end : AlikeIsAnEquivalence → (kept : List MachineState) (i j k : ℕ) (m new : MachineState) → slice_get kept i ≡ Some m → IsExchanged j k m new
    → HaveEnded new.jobs → IsKeptAlike kept new → IsKeptExchanged kept i j k
kept_end equal kept i j k m new at exchanges ended alike other there =
    let two : Some m ≡ Some other = sym at ∙ there in
    let same : m ≡ other = cc in (
      new,
      subst (λ (n : MachineState). IsExchanged j k n new) same exchanges,
      λ w shows. dead_ended equal (IsShown kept) w (alike w shows) (subst HaveEnded (sym shows.jobs) ended),
    )

machine_there : (kept : List MachineState) (i : ℕ) → i < length kept → (m : MachineState) × (slice_get kept i ≡ Some m)
machine_there [] i inside = absurd (omega arith)
machine_there (m ∷ ms) zero inside = (m, refl)
machine_there (m ∷ ms) (suc i) inside = machine_there ms i (omega arith)

module _ (runs : World → List ℕ → World → Type 0) (law : AreRuns runs) (stock : Stock) (kept : List MachineState) (peers : List Peer)
    (can : CanExchange stock kept peers) (kinds : AreOfKind stock kept) (led : AreLedThrough runs kept) (i j k : ℕ) (p q : Peer)
    (group : AreOneGroup peers j k p q) (less : j < k) (inside : i < length kept)
    (ended : HaveEndedAt kept i) (new : MachineState) (ok : (m : MachineState) → slice_get kept i ≡ Some m → IsExchanged j k m new) where
  pub swap_leads : (swap : Swap) → swap.«from» ≡ i → swap.one ≡ p.cpu → swap.other ≡ q.cpu → LeadsExchanged runs kept swap new
  swap_leads swap place first second schedule leads w shown =
      let here = machine_there kept i inside in
      let led_there = subst (LeadsThrough runs kept 0 schedule) place leads in
      let r = leads_exchanged runs law stock kept peers can kinds led i j k here.0 new p q group (λ e. omega arith) here.1 (ended here.0 here.1)
      (ok here.0 here.1) schedule led_there w shown in
      let same : map (exchanged p.cpu q.cpu) schedule ≡ map (exchanged swap.one swap.other) schedule = ap
      (λ (c : ℕ). map (exchanged c q.cpu) schedule) (sym first) ∙ ap (λ (d : ℕ). map (exchanged swap.one d) schedule) (sym second) in
      (r.0, subst (λ (cs : List ℕ). runs w cs r.0) same r.1, r.2)

  -- some schedule leads to it, so what shows all that it shows has ended
  pub ended_as_shown : (swap : Swap) → swap.«from» ≡ i → swap.one ≡ p.cpu → swap.other ≡ q.cpu → HasEndedAsShown new
  ended_as_shown swap place first second one shows =
      let here = machine_there kept i inside in
      let few = few_there runs law stock kept peers can kinds led j k p q group i here.0 here.1 in
      let over = ended_exchanged here.0 new j k (ended here.0 here.1) few.0 few.1 (ok here.0 here.1) in
      let way = led i inside in
      let w = can.fresh.0 in
      let r = swap_leads swap place first second way.0 (subst (LeadsThrough runs kept 0 way.0) (sym place) way.1) w can.fresh.2 in
      let now = shows r.0 r.2 in
      subst HaveEnded (sym (r.2).jobs ∙ now.jobs) over

  pub kept_so : AlikeIsAnEquivalence → (after : List MachineState) → Extends kept after → IsKeptAlike after new → IsKeptExchanged after i j k
  kept_so equal after more alike =
      let here = machine_there kept i inside in
      let few = few_there runs law stock kept peers can kinds led j k p q group i here.0 here.1 in
      let exchanges = ok here.0 here.1 in
      kept_end equal after i j k here.0 new (still_at kept after i here.0 here.1 more) exchanges
      (ended_exchanged here.0 new j k (ended here.0 here.1) few.0 few.1 exchanges) alike

-- ---- peers
pub peer_cpu : (peers : List Peer) (i : ℕ) (p d : Peer) → slice_get peers i ≡ Some p → (slice_index_or peers i d).cpu ≡ p.cpu
peer_cpu peers i p d at = ap (λ (x : Peer). x.cpu) (get_or_from_slice_get peers i p d at)

pub grouped : (peers : List Peer) (j k : ℕ) (d e : Peer) → j < length peers → k < length peers
    → (slice_index_or peers j d).group ≡ (slice_index_or peers k e).group → (p : Peer) × (q : Peer) × AreOneGroup peers j k p q
grouped peers j k d e first second same = (
  slice_index_or peers j d,
  slice_index_or peers k e,
  record { first = slice_get-get_or peers j d first; second = slice_get-get_or peers k e second; group = sym same },
)

pub one_group : (peers : List Peer) (j k : ℕ) (d e p q : Peer) → AreOneGroup peers j k p q
    → (slice_index_or peers j d).group ≡ (slice_index_or peers k e).group
one_group peers j k d e p q is =
    ap (λ (x : Peer). x.group) (get_or_from_slice_get peers j p d is.first) ∙ (sym is.group
    ∙ sym (ap (λ (x : Peer). x.group) (get_or_from_slice_get peers k q e is.second)))

-- ---- loops
pub none_from : (peers : List Peer) (kept : List MachineState) (i j : ℕ) → IsKeptFrom peers kept i j (j + 1)
none_from peers kept i j k one other less below group = absurd (omega arith)

pub next_from : (peers : List Peer) (old new : List MachineState) (i j n : ℕ) → i < length old → Extends old new → IsKeptFrom peers old i j n
    → ((one other : Peer) → AreOneGroup peers j n one other → IsKeptExchanged new i j n) → IsKeptFrom peers new i j (n + 1)
next_from peers old new i j n inside more far here k one other less below group = elim (cases_lt k n) [
  | inl lower ↦ exchanged_still old new more i j k inside (far k one other less lower group)
  | inr past ↦
      let e : n ≡ k = omega arith in
      subst (λ (x : ℕ). IsKeptExchanged new i j x) e
      (here one other (subst (λ (x : ℕ). AreOneGroup peers j x one other) (sym e) group))
]

pub next_around : (peers : List Peer) (old new : List MachineState) (i n : ℕ) → i < length old → Extends old new → IsKeptAround peers old i n
    → IsKeptFrom peers new i n (length peers) → IsKeptAround peers new i (n + 1)
next_around peers old new i n inside more far here j k one other below less group = elim (cases_lt j n) [
  | inl lower ↦ exchanged_still old new more i j k inside (far j k one other lower less group)
  | inr past ↦
      let e : n ≡ j = omega arith in
      let low = slice_get_within peers k other group.second in
      subst (λ (x : ℕ). IsKeptExchanged new i x k) e
      (here k one other (omega arith) low (subst (λ (x : ℕ). AreOneGroup peers x k one other) (sym e) group))
]

-- the ends below a place are kept in all places
abbrev pub IsClosedBelow : List Peer → List MachineState → ℕ → Type 0
IsClosedBelow peers kept n = (i : ℕ) → i < n → (i < length kept) × (HaveEndedAt kept i → IsKeptAround peers kept i (length peers))

pub next_closed : (peers : List Peer) (old new : List MachineState) (n : ℕ) → Extends old new → n < length old → IsClosedBelow peers old n
    → (HaveEndedAt old n → IsKeptAround peers new n (length peers)) → IsClosedBelow peers new (n + 1)
next_closed peers old new n more inside far here i less = let longer = longer old new more in elim (cases_lt i n) [
  | inl below ↦
      let r = far i below in
      let low = r.0 in (
        omega arith,
        λ ended j k one other lower above group. exchanged_still old new more i j k low
            (r.1 (ended_before old new more i low ended) j k one other lower above group),
      )
  | inr past ↦
      let e : n ≡ i = omega arith in (
        omega arith,
        subst (λ (x : ℕ). HaveEndedAt new x → IsKeptAround peers new x (length peers)) e
            (λ ended. here (ended_before old new more n inside ended)),
      )
]

pub all_closed : (peers : List Peer) (kept : List MachineState) (n : ℕ) → length kept ≤ n → IsClosedBelow peers kept n
    → (i j k : ℕ) (one other : Peer) → j < k → AreOneGroup peers j k one other → HaveEndedAt kept i → IsKeptExchanged kept i j k
all_closed peers kept n past far i j k one other less group ended m at =
    let inside = slice_get_within kept i m at in
    let low = slice_get_within peers k other group.second in
    (far i (omega arith)).1 ended j k one other (omega arith) less group m at
