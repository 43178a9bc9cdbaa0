use Rattle.vk_views.proofs.Rows.{row_posts_the_same}
use Rattle.vk_views.proofs.laws.rows_post_the_same.Goals as goal

pub returns : goal.returns
returns c = row_posts_the_same
