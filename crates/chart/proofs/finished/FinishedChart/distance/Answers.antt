use Rattle.chart.proofs.Distances.{answers}
use Rattle.chart.proofs.finished.FinishedChart.distance.Goals as goal

pub returns : goal.returns
returns c = answers _ _ _ _ _ c.args.self.now.edges.lawful c.args.self.now.closed c.minutes_between.ensures
