use Rattle.std.proofs.Common.{sym, subst, arith}
use Rattle.model.proofs.LadderLaws.{floors_exist_where_work_fits, floors_part_the_levels}
use Rattle.model.proofs.NeededSpeeds.{floor_of_nothing, needed_most, floor_of_needed}
use Rattle.speed.specs.Questions.{FirstEnough}
use Rattle.speed.proofs.floors.floor_for.Goals as goal

pub returns-then-window-from : goal.returns-then-window-from
returns-then-window-from g c =
    let xs = g.L.Ladder.speeds c.args.ladder.now in
    let sound = g.met.L.Ladder.sound c.args.ladder.now in
    record { answer = sym ((floors_exist_where_work_fits xs sound c.args.work c.args.window).1 (omega arith)); parts = omega arith }

pub returns-then-work-eq0 : goal.returns-then-work-eq0
returns-then-work-eq0 g c =
    let xs = g.L.Ladder.speeds c.args.ladder.now in
    let sound = g.met.L.Ladder.sound c.args.ladder.now in
    let is = floor_of_nothing xs sound c.args.work c.args.window (omega arith) in
    record { answer = sym is; parts = floors_part_the_levels xs sound c.args.work c.args.window 0 is }

pub lowest_level-requires : goal.lowest_level-requires
lowest_level-requires g c =
    let xs = g.L.Ladder.speeds c.args.ladder.now in
    let sound = g.met.L.Ladder.sound c.args.ladder.now in
    omega (arith, needed_most xs sound c.args.work c.args.window (omega arith) (omega arith))

pub returns : goal.returns
returns g c =
    let xs = g.L.Ladder.speeds c.args.ladder.now in
    let sound = g.met.L.Ladder.sound c.args.ladder.now in
    let i = c.lowest_level.result in
    let low = subst (λ s. FirstEnough xs s i) c.scaled.ensures c.lowest_level.ensures in
    let is = floor_of_needed xs sound c.args.work c.args.window (omega arith) i low.inside low.enough low.slower in
    record { answer = sym is; parts = floors_part_the_levels xs sound c.args.work c.args.window i is }
