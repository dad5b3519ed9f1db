-- Lists of jobs of which each is related to one of another list, and what is so of partners then.
use Rattle.std.proofs.Common.{◌≡◌, ◌∙◌, ℕ, zero, suc, List, [], ◌∷◌, Option, Some, None, refl, sym, ap, subst}
use Rattle.std.specs.Prelude.{slice_get}
use Rattle.bpf_shared.specs.Shape.{Shape}
use Rattle.bpf_loader.specs.Loaded.{Loaded}
use Rattle.bpf_cpu.specs.Task.{Task}
use Rattle.bpf_machine.specs.Headways.{with_jobs}
use Rattle.bpf_machine.specs.Schedule.{World}
use Rattle.bpf_equal.specs.Permutations.{Permutation}
use Rattle.bpf_equal.specs.Worlds.{ArePartners, IsPartner, IsPermuted, KeepsOrder}
use Rattle.bpf_equal.proofs.Partners.{partner_at, partner_back, partners_at}

abbrev pub Beside : (Task → Task → Type 0) → Option Task → Option Task → Type 0
Beside R None None = Unit {0}
Beside R None (Some y) = ⊥
Beside R (Some x) None = ⊥
Beside R (Some x) (Some y) = R x y

-- there is a list beside this one, if there is a job beside each
pub found_beside : (ys : List Task) (R : ℕ → Task → Task → Type 0) → ((k : ℕ) (y : Task) → slice_get ys k ≡ Some y → (x : Task) × R k x y)
    → (xs : List Task) × ((k : ℕ) → Beside (R k) (slice_get xs k) (slice_get ys k))
found_beside [] R f = ([], λ k. tt)
found_beside (y ∷ ys) R f =
    let first = f 0 y refl in
    let rest = found_beside ys (λ k. R (suc k)) (λ k z at. f (suc k) z at) in
    (first.0 ∷ rest.0, λ k. each first.0 first.1 rest.0 rest.1 k)
  where
    each : (x : Task) → R 0 x y → (xs : List Task) → ((k : ℕ) → Beside (R (suc k)) (slice_get xs k) (slice_get ys k)) → (k : ℕ)
        → Beside (R k) (slice_get (x ∷ xs) k) (slice_get (y ∷ ys) k)
    each x one xs all zero = one
    each x one xs all (suc k) = all k

pub right_of : (R : Task → Task → Type 0) (o p : Option Task) (x : Task) → o ≡ Some x → Beside R o p → (y : Task) × (p ≡ Some y) × R x y
right_of R None p x at both = let no : None ≡ Some x = at in cc
right_of R (Some a) None x at both = absurd both
right_of R (Some a) (Some y) x at both = let same : a ≡ x = cc in (y, refl, subst (λ (t : Task). R t y) same both)

pub left_of : (R : Task → Task → Type 0) (o p : Option Task) (y : Task) → p ≡ Some y → Beside R o p → (x : Task) × (o ≡ Some x) × R x y
left_of R o None y at both = let no : None ≡ Some y = at in cc
left_of R None (Some b) y at both = absurd both
left_of R (Some x) (Some b) y at both = let same : b ≡ y = cc in (x, refl, subst (R x) same both)

-- ---- where a job is related to another, so is its partner to a partner of the other
module _ (R : Task → Task → Type 0) (one_cpu : (x y : Task) → R x y → y.cpu ≡ x.cpu) (cpus jobs : Permutation) (w v : World)
    (p : IsPermuted cpus jobs w v) (tasks : List Task) (each : (j : ℕ) → Beside R (slice_get w.jobs j) (slice_get tasks j)) where
  abbrev h : Shape
  h = w.store.shape

  abbrev ps : List Loaded
  ps = w.programs

  abbrev Follows : Type 0
  Follows = (x more y : Task) → R x more → IsPartner h ps cpus x y → (other : Task) × IsPartner h ps cpus more other × R y other

  module _ (follows : Follows) where
    abbrev IsMoved : ℕ → Task → Task → Type 0
    IsMoved k other y = (more : Task) × (slice_get tasks (jobs.from k) ≡ Some more) × IsPartner h ps cpus more other × R y other

    moved : (k : ℕ) (y : Task) → slice_get v.jobs k ≡ Some y → (other : Task) × IsMoved k other y
    moved k y at =
        let b = partner_back h ps cpus jobs w.jobs v.jobs p.each k y at in
        let m = right_of R (slice_get w.jobs (jobs.from k)) (slice_get tasks (jobs.from k)) b.0 b.1 (each (jobs.from k)) in
        let f = follows b.0 m.0 y m.2 b.2 in
        (f.0, (m.0, m.1, f.1, f.2))

    abbrev Found : Type 0
    Found = (xs : List Task) × ((k : ℕ) → Beside (IsMoved k) (slice_get xs k) (slice_get v.jobs k))

    found : Found
    found = found_beside v.jobs IsMoved moved

    pub others : List Task
    others = found.0

    beside : (k : ℕ) → Beside (IsMoved k) (slice_get others k) (slice_get v.jobs k)
    unfolding others
    beside k = found.1 k

    related : (k : ℕ) (o q : Option Task) → Beside (IsMoved k) o q → Beside R q o
    related k None None both = tt
    related k None (Some y) both = absurd both
    related k (Some x) None both = absurd both
    related k (Some x) (Some y) (more, at, partner, so) = so

    pub others_beside : (k : ℕ) → Beside R (slice_get v.jobs k) (slice_get others k)
    others_beside k = related k (slice_get others k) (slice_get v.jobs k) (beside k)

    none_there : (j : ℕ) → slice_get v.jobs (jobs.to j) ≡ None → slice_get tasks j ≡ None
    none_there j none = here (slice_get tasks j) refl
      where
        here : (o : Option Task) → slice_get tasks j ≡ o → o ≡ None
        here None e = refl
        here (Some more) e =
            let a = left_of R (slice_get w.jobs j) (slice_get tasks j) more e (each j) in
            let b = partner_at h ps cpus jobs w.jobs v.jobs p.each j a.0 a.1 in
            let no : None ≡ Some b.0 = sym none ∙ b.1 in
            cc

    partners : (j : ℕ) (o q : Option Task) → slice_get v.jobs (jobs.to j) ≡ q → Beside (IsMoved (jobs.to j)) o q → ArePartners h ps cpus (slice_get tasks j) o
    partners j None None at both = subst (λ (t : Option Task). ArePartners h ps cpus t None) (sym (none_there j at)) tt
    partners j None (Some y) at both = absurd both
    partners j (Some x) None at both = absurd both
    partners j (Some x) (Some y) at (more, listed, partner, so) =
        partners_at h ps cpus (slice_get tasks j) (Some x) more x (ap (slice_get tasks) (sym (jobs.back j)) ∙ listed) refl partner

    order_too : KeepsOrder tasks jobs
    order_too j k one other at_j at_k same below =
        let a = left_of R (slice_get w.jobs j) (slice_get tasks j) one at_j (each j) in
        let b = left_of R (slice_get w.jobs k) (slice_get tasks k) other at_k (each k) in
        p.order j k a.0 b.0 a.1 b.1 (sym (one_cpu a.0 one a.2) ∙ same ∙ one_cpu b.0 other b.2) below

    pub permuted_beside : IsPermuted cpus jobs (with_jobs w tasks) (with_jobs v others)
    permuted_beside = record {
      store = p.store;
      programs = p.programs;
      each = λ j. partners j (slice_get others (jobs.to j)) (slice_get v.jobs (jobs.to j)) refl (beside (jobs.to j));
      order = order_too;
      lists = p.lists;
      stays = p.stays;
    }
