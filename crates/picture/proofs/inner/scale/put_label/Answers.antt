-- `picture::inner::scale::put_label` meets its contract: by how long the bar is.
use Rattle.picture.specs.Names.{tenth, hundredth, thousandth}
use Rattle.picture.proofs.ScaleLaws.{label_whole, label_tenth, label_hundredth, label_thousandth}
use Rattle.picture.proofs.inner.scale.put_label.Goals as goal

pub put_number-requires : goal.put_number-requires
put_number-requires c =
    rw (label_whole c.args.long c.if-long-ge1000.true) at c.requires

pub returns-then-long-ge1000 : goal.returns-then-long-ge1000
returns-then-long-ge1000 c =
    rw (label_whole c.args.long c.if-long-ge1000.true) c.put_number.ensures

pub put-requires : goal.put-requires
unfolding tenth
put-requires c =
    rw (label_tenth c.args.long c.if-long-ge1000.false c.if-long-ge100.true) at c.requires

pub returns-then-long-ge100 : goal.returns-then-long-ge100
unfolding tenth
returns-then-long-ge100 c =
    rw (label_tenth c.args.long c.if-long-ge1000.false c.if-long-ge100.true) c.put.ensures

pub put-requires-then-long-ge10 : goal.put-requires-then-long-ge10
unfolding hundredth
put-requires-then-long-ge10 c =
    rw (label_hundredth c.args.long c.if-long-ge1000.false c.if-long-ge100.false c.if-long-ge10.true) at c.requires

pub returns-then-long-ge10 : goal.returns-then-long-ge10
unfolding hundredth
returns-then-long-ge10 c =
    rw (label_hundredth c.args.long c.if-long-ge1000.false c.if-long-ge100.false c.if-long-ge10.true) c.put-then-long-ge10.ensures

pub put-requires-2 : goal.put-requires-2
unfolding thousandth
put-requires-2 c =
    rw (label_thousandth c.args.long c.if-long-ge1000.false c.if-long-ge100.false c.if-long-ge10.false) at c.requires

pub returns : goal.returns
unfolding thousandth
returns c =
    rw (label_thousandth c.args.long c.if-long-ge1000.false c.if-long-ge100.false c.if-long-ge10.false) c.put-2.ensures
