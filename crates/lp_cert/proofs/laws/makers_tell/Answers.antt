use Rattle.lp_cert.proofs.Floors.{ended_made, current_made, is_leg_of, floor_made, none_made}
use Rattle.lp_cert.proofs.Tellings.{begins, legs_made, waiting_told, floor_told, complete_told}
use Rattle.lp_cert.proofs.laws.makers_tell.Goals as goal

pub returns : goal.returns
returns g c =
    let model = g.M.Consistency.rules in
    record {
      begins = λ run none. begins model run none;
      legs = λ run made is. legs_made model run made is;
      ended = λ run made is. ended_made model run made is;
      current = λ run made is. current_made model run made is;
      under_way = λ run leg now. is_leg_of model run leg now;
      waiting = λ leg group still within. waiting_told model leg group still within;
      floor = λ leg still. floor_told model leg still;
      complete = λ leg k group done. complete_told model leg k group done;
      floors = λ run made in_range is leg now still. floor_made model run made is g.met.M.Consistency.lawful in_range leg now still;
      no_floor = λ run made is not_open. none_made model run made is not_open;
    }
