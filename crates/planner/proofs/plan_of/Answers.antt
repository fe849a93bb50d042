-- `plan_of` meets its contract: each part is the plan's, by what its maker ensures.
use Rattle.std.proofs.Common.{◌∙◌, get_or, replicate, refl, rules}
use Rattle.config.specs.Value.{max_bodies}
use Rattle.config.specs.Meaning.{isr, extended}
use Rattle.plan.specs.Rank.{keys}
use Rattle.plan.specs.Plan.{trigger_of, resource_count}
use Rattle.plan.proofs.Ranking.{Ranked, callables_made, lines_made, by_rank_made, marked_made, ceilings_made, users_made, entries_made}
use Rattle.plan.proofs.Parts.{plan_made}
use Rattle.planner.proofs.plan_of.Goals as goal

pub returns : goal.returns
returns c =
    let s = c.args.config in
    let b = c.of-bodies in
    let g : Ranked s b.result.count (keys s) b.result.rank = record {
      sized = search rules;
      counted = b.ensures.count;
      keyed = rw b.ensures.count refl;
      ranked = b.ensures.rank ∙ rw b.ensures.count refl;
    } in
    let n = c.by_table-tables.ensures.count in
    plan_made
    (record {
      rank = b.ensures.rank;
      callable = c.callable-callable.ensures ∙ rw b.ensures.kind (callables_made g);
      line = c.line-line.ensures ∙ rw b.ensures.kind (lines_made g);
      priority =
          c.by_rank-ranked.ensures.priorities
          ∙ rw (b.ensures.kind, b.ensures.priority) (by_rank_made g (trigger_of s) (replicate max_bodies 0));
      body = c.by_rank-ranked.ensures.bodies ∙ by_rank_made g (λ i. i) (replicate max_bodies 0);
      isrs = c.marked-isrs.ensures ∙ marked_made g (λ i. get_or s.kind i 0) isr;
      extended = c.marked-extended.ensures ∙ marked_made g (λ i. get_or s.kind i 0) extended;
      autostart = c.marked-autostart.ensures ∙ marked_made g (λ i. get_or s.autostart i 0) 1;
      ceiling =
          c.by_resource-resources.ensures.ceilings ∙ rw b.ensures.priority (ceilings_made g (resource_count s) refl);
      users = c.by_resource-resources.ensures.users ∙ users_made g (resource_count s) refl;
      first = c.by_table-tables.ensures.first;
      compare = c.compares-compare.ensures ∙ rw n refl;
      entry = c.entry_ranks-entry.ensures ∙ entries_made g c.by_table-tables.result.count n;
      count = n;
    })
