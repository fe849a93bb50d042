-- What each code's event does to the model is the machine's step.
use mathlib.Core.Path.{◌≡◌}
use borrow.Author.Tests.{ne_eqb}
use Rattle.config.specs.declared.Config.{Config}
use Rattle.config.specs.Meaning.{counts_lines}
use Rattle.event.specs.declared.Event.{Event}
use Rattle.plan.specs.declared.Plan.{Plan}
use Rattle.machine.specs.Model.{Model}
use Rattle.machine.specs.Events.{activate, finish, chain, get, release, tick, line, start, stop, wait, set_event, clear}
use Rattle.machine.specs.Machine.{status_of, effect_of, else_of, machine_step}
use Rattle.run.specs.Run.{call_of}

module _ (c : Config) (p : Plan) (m : Model) (e : Event) where
  pub activate_step : e.code ≡ 1 → activate p.callable p.priority m e.first ≡ machine_step c p m (call_of e)
  unfolding call_of status_of effect_of else_of activate
  activate_step code = rw code

  pub finish_step : e.code ≡ 2 → finish p.priority m ≡ machine_step c p m (call_of e)
  unfolding call_of status_of effect_of else_of finish
  finish_step code = rw code

  pub chain_step : e.code ≡ 3 → chain p.isrs p.callable p.priority m e.first ≡ machine_step c p m (call_of e)
  unfolding call_of status_of effect_of else_of chain
  chain_step code = rw code

  pub get_step : e.code ≡ 4 → get c.resources p.users p.ceiling m e.first ≡ machine_step c p m (call_of e)
  unfolding call_of status_of effect_of else_of get
  get_step code = rw code

  pub release_step : e.code ≡ 5 → release c.resources p.priority m e.first ≡ machine_step c p m (call_of e)
  unfolding call_of status_of effect_of else_of release
  release_step code = rw code

  pub tick_step : e.code ≡ 6 → tick p.compare p.entry p.priority m ≡ machine_step c p m (call_of e)
  unfolding call_of status_of effect_of else_of tick
  tick_step code = rw code

  pub line_step : e.code ≡ 7 → line (counts_lines c) p.line p.priority m e.first ≡ machine_step c p m (call_of e)
  unfolding call_of status_of effect_of else_of line
  line_step code = rw code

  pub start_step : e.code ≡ 8 → start c.tables p.first c.entries c.period c.offset m e.first e.second ≡ machine_step c p m (call_of e)
  unfolding call_of status_of effect_of else_of start
  start_step code = rw code

  pub stop_step : e.code ≡ 9 → stop c.tables p.first c.entries m e.first ≡ machine_step c p m (call_of e)
  unfolding call_of status_of effect_of else_of stop
  stop_step code = rw code

  pub wait_step : e.code ≡ 10 → wait p.extended p.priority m e.first ≡ machine_step c p m (call_of e)
  unfolding call_of status_of effect_of else_of wait
  wait_step code = rw code

  pub set_step : e.code ≡ 11 → set_event p.isrs p.extended p.rank p.priority m e.first e.second ≡ machine_step c p m (call_of e)
  unfolding call_of status_of effect_of else_of set_event
  set_step code = rw code

  -- the code of none of these
  pub clear_step : (e.code ≡ 1 → ⊥) → (e.code ≡ 2 → ⊥) → (e.code ≡ 3 → ⊥) → (e.code ≡ 4 → ⊥) → (e.code ≡ 5 → ⊥)
      → (e.code ≡ 6 → ⊥) → (e.code ≡ 7 → ⊥) → (e.code ≡ 8 → ⊥) → (e.code ≡ 9 → ⊥) → (e.code ≡ 10 → ⊥)
      → (e.code ≡ 11 → ⊥) → clear p.extended m e.first ≡ machine_step c p m (call_of e)
  unfolding call_of status_of effect_of else_of clear
  clear_step n1 n2 n3 n4 n5 n6 n7 n8 n9 n10 n11 =
      rw (
        ne_eqb e.code 1 n1,
        ne_eqb e.code 2 n2,
        ne_eqb e.code 3 n3,
        ne_eqb e.code 4 n4,
        ne_eqb e.code 5 n5,
        ne_eqb e.code 6 n6,
        ne_eqb e.code 7 n7,
        ne_eqb e.code 8 n8,
        ne_eqb e.code 9 n9,
        ne_eqb e.code 10 n10,
        ne_eqb e.code 11 n11,
      )
