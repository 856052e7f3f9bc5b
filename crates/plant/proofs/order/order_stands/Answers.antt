use Rattle.plant.specs.Model.{leaves}
use Rattle.plant.specs.Replies.{replied}
use Rattle.plant.proofs.Begun.{any_order}
use Rattle.plant.proofs.Swaps.{lawful, order-stands}
use Rattle.plant.proofs.order.order_stands.Goals as goal

pub returns : goal.returns
returns g c =
    let m = g.P.Plant.model in
    record {
      lists = order-stands m g.P.Plant.apart;
      begun = any_order (leaves m) (replied m) (lawful m g.P.Plant.apart);
    }
