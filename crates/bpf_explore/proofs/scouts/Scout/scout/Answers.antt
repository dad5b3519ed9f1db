use Rattle.std.proofs.Common.{◌∙◌, ℕ, refl, sym, subst}
use Rattle.bpf_explore.specs.Album.{AreKeptUnder}
use Rattle.bpf_explore.specs.Scouts.{HasTurned}
use Rattle.bpf_explore.proofs.scouts.Scout.scout.Goals as goal

pub returns-then-number : goal.returns-then-number
returns-then-number c =
    let a = c.args.album.now in
    let patient = c.args.self.now.patient in
    let machine = c.make_turn.new.machine in
    let fits = c.make_turn.ensures.fits in
    let under = subst (AreKeptUnder a.stock.stores a.stock.parts machine) (sym c.deref.ensures.value) (c.if-number.ensures refl) in
    let turned = subst (λ (k : ℕ). HasTurned patient a.kept k c.args.cpu c.in_ok-ahead.ahead machine) (sym c.in_ok-from.ensures)
    c.in_ok-ahead.ensures.turned in (
      record {
        fits = fits;
        width = c.requires.scout.width;
        notes = c.note_turn.ensures patient a.kept a.stock c.requires.scout.notes (fits.jobs ∙ sym under.size)
            (machine, turned, record { fits = fits; stands = c.stands.ensures; under = under });
      },
      refl,
    )

pub returns-else-number : goal.returns-else-number
returns-else-number c =
    let a = c.args.album.now in (
      record {
        fits = c.make_turn.ensures.fits;
        width = c.requires.scout.width;
        notes = c.note_nothing-else-number.ensures c.args.self.now.patient a.kept a.stock c.requires.scout.notes;
      },
      refl,
    )

pub returns-then-not-has_work : goal.returns-then-not-has_work
returns-then-not-has_work c =
    let a = c.args.album.now in (
      record {
        fits = c.requires.scout.fits;
        width = c.requires.scout.width;
        notes = c.note_nothing.ensures c.args.self.now.patient a.kept a.stock c.requires.scout.notes;
      },
      refl,
    )
