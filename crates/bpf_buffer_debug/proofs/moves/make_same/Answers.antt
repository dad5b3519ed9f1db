use Rattle.std.proofs.Common.{◌≡◌, ◌∙◌, ℕ, replicate, refl, subst, arith}
use Rattle.std.specs.Prelude.{string_bytes}
use Rattle.bpf_machine.proofs.HostLaws.{same_host, same_host_still}
use Rattle.bpf_buffering.specs.Search.{move_of}
use Rattle.bpf_buffer_debug.specs.Moves.{TellsTo}
use Rattle.bpf_buffer_debug.proofs.MoveLaws.{none_told, one_more}
use Rattle.bpf_buffer_debug.proofs.moves.make_same.Goals as goal

pub loop-init : goal.loop-init
loop-init c = record {
  told = none_told c.args.album.now.machine (string_bytes c.args.out.now);
  host = same_host c.args.album.now.machine.machine;
  kept = refl;
}

pub loop-preserved : goal.loop-preserved
loop-preserved c =
    let old = c.args.album.now.machine in
    let mid = c.loop.album.machine in
    let new = c.make_move.new.album.machine in
    record {
      told = one_more old mid new (move_of c.args.made) c.loop.counter (string_bytes c.args.out.now) (string_bytes c.loop.out)
          (string_bytes c.make_move.new.out) c.loop.invariant.told c.in_ok-make_move.ensures.told;
      host = same_host_still old.machine mid.machine new.machine c.loop.invariant.host c.make_move.ensures.host;
      kept = c.make_move.ensures.kept ∙ c.loop.invariant.kept;
    }

pub returns-clause-told : goal.returns-clause-told
returns-clause-told c =
    let all : c.loop.counter ≡ c.args.count = omega arith in
    subst (λ (n : ℕ). TellsTo c.args.album.now.machine (replicate n (move_of c.args.made)) (string_bytes c.args.out.now) c.loop.album.machine
    (string_bytes c.loop.out)) all c.loop.invariant.told
