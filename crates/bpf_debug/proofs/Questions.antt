-- Questions change nothing.
use Rattle.std.proofs.Common.{◌≡◌, ℕ, List, Option, Some, None, ◌⊎◌, inl, inr, ap}
use Rattle.bpf_debug.specs.Command.{Order, Break, Delete, Step, StepTimes, Steps, Go, Registers, Where, Memory, Map, Keys, Schedule, GoTo}
use Rattle.bpf_debug.specs.Command.{Maps, Variables, Number, Jobs, Mark, Back, Help, Held, Nearby, Last, Show, Watch, WatchVariable}
use Rattle.bpf_debug.specs.Command.{Unwatch}
use Rattle.bpf_debug.specs.Session.{Scene, CarriesOut}
use Rattle.bpf_debug.specs.Laws.{IsQuestion, QuestionsChangeNothing}

asks : (x y : Scene) (order : Order) (text : List ℕ) → IsQuestion order → CarriesOut x order text y → y ≡ x
asks x y (Registers c) text q f = f.1
asks x y (Where c) text q f = f.1
asks x y (Memory c at n) text q f = f.1
asks x y (Map name) text q f = f.1
asks x y (Keys name) text q f = f.1
asks x y Schedule text q f = f.1
asks x y Maps text q f = f.1
asks x y Variables text q f = f.1
asks x y (Number name) text q f = f.1
asks x y Jobs text q f = f.1
asks x y (Mark n) text q f = f.1
asks x y Help text q f = f.1
asks x y (Held c) text q f = f.1
asks x y (Nearby c) text q f = f.1
asks x y (Back n) text q f = absurd q
asks x y (Delete c p) text q f = absurd q
asks x y (Break c p) text q f = absurd q
asks x y (Watch name word) text q f = absurd q
asks x y (WatchVariable name) text q f = absurd q
asks x y Unwatch text q f = absurd q
asks x y (Step c) text q f = absurd q
asks x y (Show c) text q f = absurd q
asks x y (Last c) text q f = absurd q
asks x y (StepTimes c n) text q f = absurd q
asks x y (Steps runs) text q f = absurd q
asks x y Go text q f = absurd q
asks x y (GoTo c p) text q f = absurd q

breaks : (x y : Scene) (c p : Option ℕ) (text : List ℕ) → CarriesOut x (Break c p) text y → (y.turns ≡ x.turns) × (y.world ≡ x.world)
breaks x y (Some c) (Some p) text f = (ap (λ (z : Scene). z.turns) f.1.2, ap (λ (z : Scene). z.world) f.1.2)
breaks x y (Some c) None text f = absurd f
breaks x y None p text f = absurd f

deletes : (x y : Scene) (c p : Option ℕ) (text : List ℕ) → CarriesOut x (Delete c p) text y → (y.turns ≡ x.turns) × (y.world ≡ x.world)
deletes x y (Some c) (Some p) text f = (ap (λ (z : Scene). z.turns) f.1.2, ap (λ (z : Scene). z.world) f.1.2)
deletes x y (Some c) None text f = absurd f
deletes x y None p text f = absurd f

watches : (x y : Scene) (name word text : List ℕ) → CarriesOut x (Watch name word) text y ⊎ CarriesOut x (WatchVariable name) text y ⊎
    CarriesOut x Unwatch text y → (y.turns ≡ x.turns) × (y.world ≡ x.world)
watches x y name word text (inl f) = (ap (λ (z : Scene). z.turns) f.6, ap (λ (z : Scene). z.world) f.6)
watches x y name word text (inr (inl f)) = (ap (λ (z : Scene). z.turns) f.3, ap (λ (z : Scene). z.world) f.3)
watches x y name word text (inr (inr f)) = (ap (λ (z : Scene). z.turns) f.1, ap (λ (z : Scene). z.world) f.1)

pub questions_change_nothing : QuestionsChangeNothing
questions_change_nothing = (asks, breaks, deletes, watches)
