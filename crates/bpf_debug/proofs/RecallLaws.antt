-- Turns that are made again, and what is kept of them.
use Rattle.std.proofs.Common.{◌≡◌, ℕ, ◌+◌, Bool, true, false, ◌&&◌, List, [], ◌∷◌, ◌++◌, Option, Some, None, refl, sym, ap, subst, ◌∙◌}
use Rattle.std.proofs.Common.{if◌then◌else◌, replicate, append_assoc}
use Rattle.std.proofs.lemmas.Bool.{eq-eqb, ne_eqb}
use Rattle.std.proofs.lemmas.List.{replicate-append-replicate}
use Rattle.bpf_machine.specs.declared.machine.Turn.{Turn}
use Rattle.bpf_machine.specs.Schedule.{World, TakesTurn, RunsSchedule, unrolled}
use Rattle.bpf_machine.specs.Machine.{MachineState, Shows}
use Rattle.bpf_debug.specs.declared.recall.Kind.{Kind}
use Rattle.bpf_debug.specs.declared.recall.Recall.{Recall}
use Rattle.bpf_cpu.specs.Task.{Task}
use Rattle.bpf_debug.specs.Answer.{ended_text}
use Rattle.bpf_debug.specs.Recall.{Past, Recalls, IsLastText, IsRecall, IsStand, IsStandText, is_of, past_after}

-- ---- they are a schedule
pub recalls_run : (k : Kind) (c : ℕ) (w : World) (old : Option Past) (turns : List ℕ) (new : Option Past) (z : World) → Recalls k c w old
    turns new z → RunsSchedule w turns z
recalls_run k c w old [] new z r = r.1
recalls_run k c w old (d ∷ turns) new z r = (r.0, r.1, r.2, recalls_run k c r.1 (past_after k c w d r.0 old) turns new z r.3)

pub recalls_both : (k : Kind) (c : ℕ) (cs ds : List ℕ) (w m z : World) (old mid new : Option Past) → Recalls k c w old cs mid m → Recalls k
    c m mid ds new z → Recalls k c w old (cs ++ ds) new z
recalls_both k c [] ds w m z old mid new a b =
    subst (λ (p : Option Past). Recalls k c w p ds new z) a.0 (subst (λ (x : World). Recalls k c x mid ds new z) a.1 b)
recalls_both k c (e ∷ cs) ds w m z old mid new a b = (a.0, a.1, a.2, recalls_both k c cs ds a.1 m z (past_after k c w e a.0 old) mid new a.3 b)

-- ---- one turn more
pub of_another : (k : Kind) (c : ℕ) (w : World) (d : ℕ) (answer : Turn) (old : Option Past) → (d ≡ c → ⊥) → past_after k c w d answer old ≡ old
of_another k c w d answer old other = ap (λ (b : Bool). if b && is_of k answer then Some (record { before = w; answer = answer }) else old) (ne_eqb d c other)

pub of_kind : (k : Kind) (c : ℕ) (w : World) (d : ℕ) (answer : Turn) (old : Option Past) → d ≡ c → is_of k answer ≡ true → past_after k c w
    d answer old ≡ Some (record { before = w; answer = answer })
of_kind k c w d answer old own is =
    ap (λ (b : Bool). if b && is_of k answer then Some (record { before = w; answer = answer }) else old) (eq-eqb d c own)
    ∙ ap (λ (b : Bool). if b then Some (record { before = w; answer = answer }) else old) is

pub of_no_kind : (k : Kind) (c : ℕ) (w : World) (d : ℕ) (answer : Turn) (old : Option Past) → d ≡ c → is_of k answer ≡ false → past_after k
    c w d answer old ≡ old
of_no_kind k c w d answer old own is =
    ap (λ (b : Bool). if b && is_of k answer then Some (record { before = w; answer = answer }) else old) (eq-eqb d c own)
    ∙ ap (λ (b : Bool). if b then Some (record { before = w; answer = answer }) else old) is

-- what one turn does
abbrev pub RecallsTurn : MachineState → ℕ → Kind → ℕ → Option Recall → MachineState → Option Recall → Type 0
RecallsTurn start d k c kept new last =
    (answer : Turn) × ((w : World) → Shows start w → (z : World) × TakesTurn w d answer z × Shows new z
    × ((old : Option Past) → IsRecall c kept old → IsRecall c last (past_after k c w d answer old)))

abbrev MakesTurn : MachineState → ℕ → Turn → MachineState → Type 0
MakesTurn start d answer new = (w : World) → Shows start w → (z : World) × TakesTurn w d answer z × Shows new z

pub other_turn : (start new : MachineState) (d : ℕ) (k : Kind) (c : ℕ) (kept : Option Recall) (answer : Turn) → (d ≡ c → ⊥) → MakesTurn
    start d answer new → RecallsTurn start d k c kept new kept
other_turn start new d k c kept answer other turns = (
  answer,
  λ w shows. (
      let t = turns w shows in
      (t.0, t.1, t.2, λ old is. subst (λ (p : Option Past). IsRecall c kept p) (sym (of_another k c w d answer old other)) is)),
)

pub kept_turn : (start new : MachineState) (d : ℕ) (k : Kind) (c : ℕ) (kept : Option Recall) (more : Recall) (answer : Turn) → d ≡ c → is_of
    k answer ≡ true → IsStand start.jobs c more.stand → more.turn ≡ answer
    → MakesTurn start c answer new → RecallsTurn start d k c kept new (Some more)
kept_turn start new d k c kept more answer own is stands same turns = (
  answer,
  λ w shows. (
      let t = turns w shows in
      let there : IsStand w.jobs c more.stand = subst (λ (jobs : List Task). IsStand jobs c more.stand) (sym shows.jobs) stands in (
        t.0,
        subst (λ (e : ℕ). TakesTurn w e answer t.0) (sym own) t.1,
        t.2,
        λ old was. subst (λ (p : Option Past). IsRecall c (Some more) p) (sym (of_kind k c w d answer old own is)) (there, same),
      )),
)

pub passed_turn : (start new : MachineState) (d : ℕ) (k : Kind) (c : ℕ) (kept : Option Recall) (answer : Turn) → d ≡ c → is_of k answer ≡
    false → MakesTurn start c answer new → RecallsTurn start d k c kept new kept
passed_turn start new d k c kept answer own is turns = (
  answer,
  λ w shows. (
      let t = turns w shows in (
        t.0,
        subst (λ (e : ℕ). TakesTurn w e answer t.0) (sym own) t.1,
        t.2,
        λ old was. subst (λ (p : Option Past). IsRecall c kept p) (sym (of_no_kind k c w d answer old own is)) was,
      )),
)

-- ---- what is printed of it
kept_told : (kept : Recall) (c : ℕ) (old mid new : List ℕ) (jobs : List Task) → mid ≡ old ++ ended_text c kept.turn
    → ((was : List Task) → IsStand was c kept.stand → (text : List ℕ) × IsStandText was c text × (new ≡ mid ++ text))
    → (past : Option Past) → IsRecall c (Some kept) past → (text : List ℕ) × IsLastText c past jobs text × (new ≡ old ++ text)
kept_told kept c old mid new jobs put stood None is = absurd is
kept_told kept c old mid new jobs put stood (Some past) is =
    let s = stood past.before.jobs is.0 in
    let ended : List ℕ = ended_text c past.answer in
    let first : mid ≡ old ++ ended = put ∙ ap (λ (t : Turn). old ++ ended_text c t) is.1 in
    (ended ++ s.0, (s.0, s.1, refl), s.2 ∙ ap (λ (m : List ℕ). m ++ s.0) first ∙ append_assoc old ended s.0)

pub recalled_told : (recall : Option Recall) (kept : Recall) (c : ℕ) (old mid new : List ℕ) (jobs : List Task) → recall ≡ Some kept → mid ≡
    old ++ ended_text c kept.turn
    → ((was : List Task) → IsStand was c kept.stand → (text : List ℕ) × IsStandText was c text × (new ≡ mid ++ text))
    → (past : Option Past) → IsRecall c recall past → (text : List ℕ) × IsLastText c past jobs text × (new ≡ old ++ text)
recalled_told recall kept c old mid new jobs same put stood =
    let P : Option Recall → Type 0 = λ r. (past : Option Past) → IsRecall c r past → (text : List ℕ) × IsLastText c past jobs text × (new ≡ old ++ text) in
    subst P (sym same) (kept_told kept c old mid new jobs put stood)

-- ---- how far they have come
abbrev pub RecallsTurns : MachineState → ℕ → Kind → ℕ → Option Recall → MachineState → ℕ → Option Recall → Type 0
RecallsTurns start d k c kept new n last =
    (w : World) → Shows start w → (old : Option Past) → IsRecall c kept old → (z : World) × (past : Option Past)
    × Recalls k c w old (replicate n d) past z × Shows new z × IsRecall c last past

pub none_recalled : (start : MachineState) (d : ℕ) (k : Kind) (c : ℕ) (kept : Option Recall) → RecallsTurns start d k c kept start 0 kept
none_recalled start d k c kept w shows old is = (w, old, (refl, refl), shows, is)

pub one_recalled : (start new next : MachineState) (d : ℕ) (k : Kind) (c n : ℕ) (kept last more : Option Recall) → RecallsTurns start d k c kept new n last
    → RecallsTurn new d k c last next more → RecallsTurns start d k c kept next (n + 1) more
one_recalled start new next d k c n kept last more so_far turn w shows old is =
    let r = so_far w shows old is in
    let t = turn.1 r.0 r.3 in
    let past : Option Past = past_after k c r.0 d turn.0 r.1 in
    let longer : replicate n d ++ d ∷ [] ≡ replicate (n + 1) d = replicate-append-replicate n 1 d in
    let one : Recalls k c r.0 r.1 (d ∷ []) past t.0 = (turn.0, t.0, t.1, (refl, refl)) in (
      t.0,
      past,
      subst (λ (cs : List ℕ). Recalls k c w old cs past t.0) longer (recalls_both k c (replicate n d) (d ∷ []) w r.0 t.0 old r.1 past r.2 one),
      t.2,
      t.3 r.1 r.4,
    )

-- some runs have been made, and these are left
abbrev pub RecallsFar : MachineState → List (ℕ × ℕ) → Kind → ℕ → MachineState → List (ℕ × ℕ) → Option Recall → Type 0
RecallsFar start runs k c new rest last =
    (w : World) → Shows start w → (m : World) × (past : Option Past) × Shows new m × IsRecall c last past
    × ((more : Option Past) (z : World) → Recalls k c m past (unrolled rest) more z → Recalls k c w None (unrolled runs) more z)

pub no_run_recalled : (start : MachineState) (runs : List (ℕ × ℕ)) (k : Kind) (c : ℕ) → RecallsFar start runs k c start runs None
no_run_recalled start runs k c w shows = (w, None, shows, tt, λ more z r. r)

pub one_run_recalled : (start new next : MachineState) (runs rest left : List (ℕ × ℕ)) (run : ℕ × ℕ) (k : Kind) (c : ℕ)
    (last more : Option Recall) → RecallsFar start runs k c new rest last
    → rest ≡ run ∷ left → RecallsTurns new run.0 k c last next run.1 more → RecallsFar start runs k c next left more
one_run_recalled start new next runs rest left run k c last more far is made w shows =
    let f = far w shows in
    let t = made f.0 f.2 f.1 f.3 in (
      t.0,
      t.1,
      t.3,
      t.4,
      λ past z r.
          let R : List (ℕ × ℕ) → Type 0 = λ rs. Recalls k c f.0 f.1 (unrolled rs) past z in
          f.4 past z (subst R (sym is) (recalls_both k c (replicate run.1 run.0) (unrolled left) f.0 t.0 z f.1 t.1 past t.2 r)),
    )

pub runs_recalled : (start new : MachineState) (runs rest : List (ℕ × ℕ)) (k : Kind) (c : ℕ) (last : Option Recall) → RecallsFar start runs
    k c new rest last → rest ≡ []
    → (w : World) → Shows start w → (z : World) × (past : Option Past) × Recalls k c w None (unrolled runs) past z × Shows new z × IsRecall c last past
runs_recalled start new runs rest k c last far none w shows =
    let f = far w shows in
    let R : List (ℕ × ℕ) → Type 0 = λ rs. Recalls k c f.0 f.1 (unrolled rs) f.1 f.0 in
    (f.0, f.1, f.4 f.1 f.0 (subst R (sym none) (refl, refl)), f.2, f.3)
