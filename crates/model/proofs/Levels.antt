-- What a start in time is given: a level at which its work ends in the window.
use Rattle.std.proofs.Common.{ℕ, ◌≤◌, List, length, unwrap_or, arith}
use Rattle.model.specs.Ladders.{Sound, top, time, floor}
use Rattle.model.specs.Policies.{Rule, Ranged}
use Rattle.model.proofs.LadderLaws.{floors_exist_where_work_fits, floors_part_the_levels}

pub level_in_window : (speeds : List ℕ) → Sound speeds → (rule : Rule) → Ranged rule → (work window : ℕ) → work ≤ window
    → (t n : ℕ) → time speeds work (rule t n (unwrap_or (floor speeds work window) (length speeds)) (top speeds)) ≤ window
level_in_window speeds sound rule ranged work window fits t n =
    let exists = (floors_exist_where_work_fits speeds sound work window).0 fits in
    let i = exists.0 in
    let parts = floors_part_the_levels speeds sound work window i exists.1 in
    let low : i ≤ top speeds = omega (arith, parts.0) in
    rw exists.1
    (parts.1 (rule t n i (top speeds)) (ranged.from_floor t n i (top speeds) low) (omega (arith, sound.some_level, ranged.to_top t n i (top speeds) low)))
