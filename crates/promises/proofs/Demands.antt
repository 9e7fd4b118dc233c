-- The demands are put together from what the other files prove.
use mathlib.Core.Path.{sym, ◌∙◌}
use Rattle.stored.proofs.ShownHolds.{same_wave}
use Rattle.line.proofs.Settling.{smooth_laws_hold}
use Rattle.line.proofs.WarpLaws.{warp_laws_hold}
use Rattle.line.proofs.WanderReads.{equal_lengths_warp}
use Rattle.line.proofs.WanderLine.{equal_lengths_line}
use Rattle.counted.proofs.Continuing.{counting_continues}
use Rattle.counted.proofs.Later.{later_reads_keep}
use Rattle.timecode.proofs.WrittenBack.{written_reads_back}
use Rattle.timecode.proofs.ReadBack.{read_writes_back}
use Rattle.board.proofs.WellFormedStays.{every_step}
use Rattle.board.proofs.TurnedOver.{same_crossed}
use Rattle.capture.proofs.RoundTrips.{written_read_back, read_written_back}
use Rattle.halfcells.proofs.TableHolds.{table_is_the_rule}
use Rattle.bay_log.proofs.OnceListed.{lists_in_order}
use Rattle.bay_log.proofs.Calls.{any_sequence}
use Rattle.bay_log.proofs.KeepsLast.{keeps_last}
use Rattle.halfcells.proofs.Shown.{words_are_the_wave}
use Rattle.halfcells.proofs.RoundTrips.{encoded_decodes, decoded_encodes}
use Rattle.board.specs.Rows.{fresh}
use Rattle.page.proofs.WholeOutput.{whole}
use Rattle.promises.specs.Places.{scene}
use Rattle.promises.specs.Demand3.{receiver_settings}
use Rattle.promises.specs.Hearing.{hearing}
use Rattle.promises.specs.Demands.{Demands}
use Rattle.promises.proofs.Reaches.{steady_by_lengths}
use Rattle.promises.proofs.CountedReturns.{accepted_return, operation_returns, steady_return}
use Rattle.promises.proofs.Picked.{picked_counts}
use Rattle.promises.proofs.LastReports.{last_reports}
use Rattle.promises.proofs.Demand3.{user_wording}
use Rattle.promises.proofs.Scenes.{running, clocked, link_demand, demand_3, grounds, steady_clocks}
use Rattle.promises.proofs.StoredPlans.{every_stored_plan, stored_plans_hold}
use Rattle.promises.proofs.Hearing.{heeded_reports}
use Rattle.promises.proofs.HearingFromC.{every_caller}
use Rattle.promises.proofs.AnyHearing.{read_binary, any_hearing}
use Rattle.promises.proofs.Ready.{ready_by, ready_holds}
use Rattle.promises.proofs.ByContract.{by_contract}
use Rattle.promises.proofs.OneMeaning.{one_meaning}
use Rattle.promises.proofs.SingleCalls.{answered, answered_from_c}
use Rattle.promises.proofs.WholeWay.{accepted_fits, whole_way}

pub demands : Demands
demands = record {
  contracts = by_contract;
  one_meaning = one_meaning;
  demand_1 = answered;
  demand_1_from_c = answered_from_c;
  demand_2 = record {
    stored = same_wave;
    smooths = smooth_laws_hold;
    line = warp_laws_hold;
    equal_lengths = equal_lengths_warp;
    equal_lengths_line = equal_lengths_line;
    steady_by_lengths = steady_by_lengths;
    counts = accepted_return;
    counts_bits = operation_returns;
    steady_counts = steady_return;
    continues = counting_continues;
    keeps = later_reads_keep;
    picks = picked_counts;
    well_formed_says = every_step;
    same_crossed = same_crossed;
    hears = every_caller;
    reads_back = written_read_back;
    writes_back = read_written_back;
    words_table = table_is_the_rule;
    words_wave = words_are_the_wave;
    words_decode = encoded_decodes;
    words_encode = decoded_encodes;
    times_read_back = written_reads_back;
    times_write_back = read_writes_back;
    log_lists = lists_in_order;
    log_shows = any_sequence;
    log_keeps_last = keeps_last;
    log_last_reports = last_reports;
    writes_rows = whole;
  };
  demand_3 = record {
    of_the_rules = demand_3;
    in_the_users_words = user_wording;
    grounds = grounds;
    of_every_caller = λ x fits range caller.
        let settings = receiver_settings (scene x) in
        link_demand x fits (hearing caller settings)
        (any_hearing (running x) x.high_after (clocked x fits) (hearing caller settings)
        (every_caller settings range caller));
    steady_clocks = steady_clocks;
    ready = ready_holds;
    ready_for_every_caller = λ x fits range caller.
        let settings = receiver_settings (scene x) in
        ready_by x fits (hearing caller settings)
        (sym (every_caller settings range caller (scene x).reads
        ∙ heeded_reports settings fresh 0 (scene x).reads (read_binary (running x) x.high_after (clocked x fits))));
    judged = accepted_fits;
    whole_way = whole_way;
    every_stored_plan = every_stored_plan;
    stored_plans = stored_plans_hold;
  };
}
