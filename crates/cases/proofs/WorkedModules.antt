-- The worked modules, each computed.
use Rattle.std.proofs.Common.{◌≡◌, ℕ, ◌<◌, ◌≤◌, Bool, true, not, ◌&&◌, ◌||◌, leb, ◌↔◌, [], ◌∷◌, refl, inl, inr, arith, lit≤}
use Rattle.std.proofs.lemmas.Bool.{and_from, and_parts, both_ways, le-leb, leb-true, not-true, or_cases}
use Rattle.model.specs.FlightRecords.{accepted, asks_end, asks_release, calls_end, calls_release, concerns, ends, flight, flown, how_many, is_tick, names_other, names_task, own_entries, releases, runs, struck, ticks, up_to}
use Rattle.model.specs.InTime.{Passes, all_in_time, ceil, demand, in_time, partition, passes, size, sum_before, supply}
use Rattle.model.specs.Machine.{after, answered, asked, chosen, closed, is_runner, late, noted, obeyed, one_on, overdue, progress, put, ran_of, ready, refusal, refused_of, released, reply, runner, since_of, tick_reply, ticked, told, turn_reply, unless, worked}
use Rattle.model.specs.Modules.{task_of}
use Rattle.model.specs.Orders.{listed, record_of}
use Rattle.model.specs.Planning.{end_to_end, least_q, least_qs, plan, windows_for, with_q, written}
use Rattle.model.specs.Ranges.{all_below, first_found, first_of, first_such, least_below, or_else, some_upto, sum_below}
use Rattle.model.specs.Timetables.{opened, owned_by, owner_at, share_owner, window_owner}
use Rattle.model.specs.Verdicts.{cleared, failing_start, finding, first_late, foreign_place, late_at, late_task, owner_known, verdict_by, verdict_on}
use Rattle.cases.specs.WorkedModules.{WorkedCases, WorkedModules, exchanged_A, late_calls, partition_A, timetable_A, window}
use Rattle.model.specs.WindowLists.{overlap}
use Rattle.model.proofs.Decisions.{decides_passes}
use Rattle.model.proofs.Orders.{orders_lawful}
use Rattle.model.proofs.Ranges.{all_from}
use Rattle.model.proofs.Timetables.{timetables_lawful}

abbrev fits : ℕ → Bool
fits s = passes (partition_A 18) 1 s

abbrev middle : ℕ → Bool
middle s = leb 2 s && leb s 4

-- task 1 of A with deadline 18 passes outside the starts 2 to 4, and only there
outside : all_below (λ s. fits s || middle s) 10 ≡ true
unfolding all_below some_upto sum_below passes demand supply sum_before ceil size task_of record_of owner_at owned_by opened window_owner
outside = refl

not_inside : all_below (λ s. not (fits s && middle s)) 10 ≡ true
unfolding all_below some_upto sum_below passes demand supply sum_before ceil size task_of record_of owner_at owned_by opened window_owner
not_inside = refl

fails_A : (s : ℕ) → s < 10 → (Passes (partition_A 18) 1 s → ⊥) ↔ ((2 ≤ s) × (s ≤ 4))
fails_A s l = (
  (λ stuck. elim (or_cases (fits s) (middle s) (all_from (λ x. fits x || middle x) 10 outside s l)) [
    | inl e ↦ absurd (stuck ((decides_passes (partition_A 18) 1 s).0 e))
    | inr e ↦ let v = and_parts (leb 2 s) (leb s 4) e in (leb-true _ _ v.0, leb-true _ _ v.1)
  ]),
  (λ b h. both_ways (fits s && middle s) (not-true _ (all_from (λ x. not (fits x && middle x)) 10 not_inside s l))
      (and_from _ _ ((decides_passes (partition_A 18) 1 s).1 h) (and_from _ _ (le-leb _ _ b.0) (le-leb _ _ b.1)))),
)

-- with the tasks exchanged task 1 passes nowhere
nowhere : all_below (λ s. not (passes (partition timetable_A listed exchanged_A 0) 1 s)) 10 ≡ true
unfolding all_below some_upto sum_below passes demand supply sum_before ceil size task_of record_of owner_at owned_by opened window_owner
nowhere = refl

exchanged_fails : (s : ℕ) → s < 10 → Passes (partition timetable_A listed exchanged_A 0) 1 s → ⊥
exchanged_fails s l h =
    both_ways (passes (partition timetable_A listed exchanged_A 0) 1 s)
    (not-true _ (all_from (λ x. not (passes (partition timetable_A listed exchanged_A 0) 1 x)) 10 nowhere s l))
    ((decides_passes (partition timetable_A listed exchanged_A 0) 1 s).1 h)

worked_cases : WorkedCases
unfolding task_of opened window_owner share_owner owner_at owned_by record_of first_such first_of or_else first_found least_below sum_below some_upto all_below size supply sum_before ceil demand passes in_time all_in_time owner_known cleared foreign_place failing_start first_late late_at late_task finding verdict_by verdict_on least_q with_q least_qs end_to_end windows_for plan reply after chosen runner is_runner one_on worked overdue late closed ticked progress turn_reply tick_reply ready unless refusal ran_of answered released put obeyed noted refused_of told asked since_of flown flight written struck names_other own_entries concerns ticks releases ends runs how_many up_to is_tick accepted asks_release asks_end calls_release calls_end names_task
worked_cases = record {
  cleared_A = refl;
  late_A = refl;
  supply_A = (refl, refl, refl);
  exchanged = refl;
  exchanged_cleared = refl;
  least_A = (refl, refl);
  least_57 = refl;
  least_one = (refl, refl);
  too_long = refl;
  no_q = refl;
  checks = (refl, refl);
  room_first = refl;
  no_frame = refl;
  lowest_named = refl;
  none_before_sum = refl;
  later_kept = refl;
  planned = refl;
  shifted_A = (refl, refl);
  bare = (refl, refl);
  foreign_idle = refl;
  foreign = refl;
  first_frame = refl;
  too_soon = refl;
  late_at_21 = (refl, refl);
  late_record_A = (late_calls, [], refl, (0, 1, omega arith, lit≤ tt, refl));
  late_closes = (refl, refl, refl);
  late_unserved = (refl, refl, refl);
  next_release_cuts = (refl, refl, refl);
  struck_0 = refl;
  own_0 = refl;
  own_refused = refl;
  owners_job = (refl, refl);
  tight_cleared = refl;
  tight_demand = (refl, refl, refl, refl);
  refusals = refl;
  entries = refl;
  lost_one = refl;
  lost_stops = refl;
  ended = refl;
  at_the_end = refl;
  stays_at_the_end = refl;
  past_the_end = refl;
  numbers = refl;
}

pub worked_modules : WorkedModules
worked_modules = record {
  lawful_A = record { timetable = timetables_lawful.windows overlap 10 (window 0 0 4 ∷ window 1 4 1 ∷ []); local_order = orders_lawful.by_number; limits = refl };
  fails_A = fails_A;
  exchanged_fails = exchanged_fails;
  cases = worked_cases;
}
