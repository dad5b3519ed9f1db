use Rattle.std.proofs.Common.{map}
use Rattle.std.specs.Prelude.{string_bytes}
use Rattle.bpf_buffering.specs.Search.{buffer_at}
use Rattle.bpf_buffer_events.specs.declared.telling.Scene.{Scene}
use Rattle.bpf_buffer_events.proofs.Joined.{none_here, nothing_flushed, oldest_told, some_here, still_watched}
use Rattle.bpf_buffer_events.proofs.telling.flush.Goals as goal

pub returns-clause-told : goal.returns-clause-told
returns-clause-told c =
    let old = c.args.scene.now in
    let new : Scene = record { machine = c.flush.new.self; watcher = old.watcher; text = c.push_flush.new.text } in
    let stores = c.buffer-buffer.result.now in
    oldest_told c.args.cpu stores _ c.flush.result (map string_bytes c.args.names.now) old new
    (some_here stores c.is_empty.result c.is_empty.ensures c.if-is_empty.false) c.buffer-buffer.ensures c.flush.ensures.flushed
    c.flush.ensures.empty c.in_ok-push_flush.ensures

pub returns-clause-shape : goal.returns-clause-shape
returns-clause-shape c = still_watched c.args.scene.now.machine c.flush.new.self c.args.scene.now.watcher c.flush.ensures.host c.requires

pub returns-then-is_empty-clause-told : goal.returns-then-is_empty-clause-told
returns-then-is_empty-clause-told c =
    let old = c.args.scene.now in
    nothing_flushed c.args.cpu (map string_bytes c.args.names.now) old (none_here c.buffer-buffer.result.now
    (buffer_at old.machine.buffers c.args.cpu) c.is_empty.result c.is_empty.ensures c.if-is_empty.true c.buffer-buffer.ensures) 1

pub returns-then-is_empty-clause-idle : goal.returns-then-is_empty-clause-idle
returns-then-is_empty-clause-idle c still n =
    let old = c.args.scene.now in
    nothing_flushed c.args.cpu (map string_bytes c.args.names.now) old (none_here c.buffer-buffer.result.now
    (buffer_at old.machine.buffers c.args.cpu) c.is_empty.result c.is_empty.ensures c.if-is_empty.true c.buffer-buffer.ensures) n
