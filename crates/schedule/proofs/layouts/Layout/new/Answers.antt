use Rattle.std.proofs.Common.{◌≡◌, ℕ, false, map, get_or, replicate, vec_items, sym, refl, ap, subst, ⊎_elim}
use Rattle.std.proofs.lemmas.List.{get_or-replicate, get_or_past}
use Rattle.std.proofs.lemmas.Bool.{cases_lt}
use Rattle.graph.specs.Meaning.{segment_of}
use Rattle.model.specs.Canonical.{after}
use Rattle.queue.specs.Held.{held}
use Rattle.schedule_laws.proofs.Beginning.{begun_all}
use Rattle.schedule_laws.specs.Standing.{Standing}
use Rattle.schedule.specs.Meaning.{start_of}
use Rattle.schedule.proofs.layouts.Layout.new.Goals as goal

none_taken : (c : ℕ) → get_or (replicate 8 false) c false ≡ false
none_taken c = ⊎_elim (λ l. get_or-replicate 8 c false false l) (λ l. get_or_past (replicate 8 false) c false l) (cases_lt c 8)

pub returns : goal.returns
returns c =
    let s = segment_of c.args.segment.now in
    let n = c.args.cores in
    let R = held c.begin.new.ready in
    let W = vec_items c.in_ok-waiting.waiting in (
      refl,
      refl,
      record {
        moment = refl;
        starts = ap (map start_of) c.new.ensures.items;
        standing = subst (λ us. Standing n s (after n s 0) R us W (replicate 8 false)) (sym c.new-2.ensures.empty.holds) (begun_all n s R W (replicate 8 false) c.in_ok-waiting.ensures.begun refl none_taken);
      },
    )
