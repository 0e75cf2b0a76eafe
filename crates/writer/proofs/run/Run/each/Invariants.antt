use Rattle.std.proofs.Common.{◌≡◌, ◌+◌, length, drop}
use Rattle.std.specs.List.{flat_map}
use Rattle.model.specs.Runs.{over}
use Rattle.writer.proofs.run.Run.each.Given as goal

-- the items to come end the work
abbrev pub invariant-loop-item : goal.invariant-loop-item
invariant-loop-item g l =
    (l.self.out.ghost_name ≡ l.initial.self.out.ghost_name)
    × (over l.self.at (flat_map g.T.Put.bytes (drop l.item-index l.items)) l.self.out.now ≡ over l.initial.self.at (flat_map g.T.Put.bytes l.items) l.initial.self.out.now)
    × (l.self.at + length (flat_map g.T.Put.bytes (drop l.item-index l.items)) ≡ l.initial.self.at + length (flat_map g.T.Put.bytes l.items))
